-- The checks of an offered yard, and its border behind the data. Assumes nothing.
use Rattle.numbers.proofs.Prelude.{ℕ, ◌/◌, ◌≤◌, ◌<◌, min, eq-eqb, ne_eqb, lt-ltb, le-ltb, leb-true, eqb, ltb, leb, ℤ, length, take, length-append, Bool, true, false, ◌&&◌}
use Rattle.numbers.{proofs.{Prelude.{List, [], ◌≡◌, refl, sym, ap, subst, ◌∙◌, arith}, Tests.{both}}, specs.{Reply.{Reply, given, refused, plain, ◌>>◌}, declared.refusal.Refusal.{Refusal}}}
use Rattle.writer.specs.{Pieces.{pieces_of}, Writer.{sized, checks, border_of}, declared.write.Piece.{Piece}}
use Rattle.builder.{proofs.drawing.{Lending.{border_size, demanded, never_given}, Parted.{pieces_many}}, specs.{Borders.{appended, Draws, Lends}, File.{are_texts, up_to}}}
use Rattle.builder.specs.inner.Drawing.Section.{LentFor}
use Rattle.draft.specs.{Held.Builder.{Offered}, declared.held.state.Held.{Held}}
use Rattle.add.specs.Offered.Offers.{offer_good, border_behind, data_with, Offers}

-- ---- 19 to 22, 25, 26
module _ (yards names : ℕ) (o : Offered) (r : Reply (Unit {0})) (e : r ≡ checks 0 o.lats o.lons []) where
  pub border_bad : (why : Refusal) → r ≡ refused why → refused why ≡ offer_good yards names o
  unfolding offer_good
  border_bad why is = let bad : checks 0 o.lats o.lons [] ≡ refused why = sym e ∙ is in rw bad refl

  module _ (t : r ≡ given tt) where
    good : checks 0 o.lats o.lons [] ≡ given tt
    good = sym e ∙ t

    counts_bad : (ltb yards 4096 && eqb names (length o.lengths)) ≡ false → (s : Reply (Unit {0})) → s ≡ refused (plain 25) → s ≡ offer_good yards names o
    unfolding offer_good
    counts_bad c s is = is ∙ rw (good, c) refl

    pub many_yards : 4096 ≤ yards → (s : Reply (Unit {0})) → s ≡ refused (plain 25) → s ≡ offer_good yards names o
    many_yards h = counts_bad (ap (λ (b : Bool). b && eqb names (length o.lengths)) (le-ltb yards 4096 h))

    module _ (few : yards < 4096) where
      pub other_names : (length o.lengths ≡ names → ⊥) → (s : Reply (Unit {0})) → s ≡ refused (plain 25) → s ≡ offer_good yards names o
      other_names h = counts_bad (ap (λ (b : Bool). b && eqb names (length o.lengths)) (lt-ltb yards 4096 few) ∙ ne_eqb names (length o.lengths) (λ e. h (sym e)))

      module _ (same : length o.lengths ≡ names) (b : Bool) (is : b ≡ are_texts o.lengths o.texts) where
        counts : (ltb yards 4096 && eqb names (length o.lengths)) ≡ true
        counts = ap (λ (b : Bool). b && eqb names (length o.lengths)) (lt-ltb yards 4096 few) ∙ eq-eqb names (length o.lengths) (sym same)

        pub texts_bad : b ≡ false → (s : Reply (Unit {0})) → s ≡ refused (plain 26) → s ≡ offer_good yards names o
        unfolding offer_good
        texts_bad n s e = let bad : are_texts o.lengths o.texts ≡ false = sym is ∙ n in e ∙ rw (good, counts, bad) refl

        pub all_good : b ≡ true → given tt ≡ offer_good yards names o
        unfolding offer_good
        all_good n = let fine : are_texts o.lengths o.texts ≡ true = sym is ∙ n in rw (good, counts, fine) refl

-- ---- the border
pub offer_lends : (version : ℕ) (lats lons : List ℤ) (pieces : List Piece) (earlier : List ℕ) (room bytes wide most limit lent : ℕ) → most ≡ up_to (min bytes wide) → limit ≡ up_to (min room most)
    → LentFor (length lats) wide lent → Lends limit earlier (border_of version lats lons pieces earlier) lent
offer_lends version lats lons pieces earlier room bytes wide most limit lent e f l more is long =
    omega (arith, e, f, l.is, long, length-append earlier more, border_size version lats lons pieces earlier more is)

-- no border that was passed has more points
few_points : (lats lons : List ℤ) → checks 0 lats lons [] ≡ given tt → length lats ≤ 65535
unfolding checks sized
few_points lats lons e = let good : sized lats lons ≡ true = demanded (sized lats lons) (plain 19) _ tt e in
    let two = both (eqb (length lats) (length lons)) (ltb 0 (length lats) && leb (length lats) 65535) good in
    leb-true (length lats) 65535 (both (ltb 0 (length lats)) (leb (length lats) 65535) two.1).1

pub offer_draws : (version room bytes out most limit : ℕ) → most ≡ up_to (min bytes out) → limit ≡ up_to (min room most) → (earlier : List ℕ) (lats lons : List ℤ) (pieces after : List ℕ) (r : Reply ℕ)
    → Draws (appended limit earlier false (length pieces / 5) (border_of version lats lons (pieces_of pieces) earlier)) earlier after r
    → Draws (border_behind version (up_to (min room (min bytes out))) earlier lats lons pieces) earlier after r
offer_draws version room bytes out most limit e f earlier lats lons pieces after r = let same : limit ≡ up_to (min room (min bytes out)) = omega (arith, e, f) in
    subst (λ (x : Reply (List ℕ)). Draws x earlier after r) (ap (λ (n : ℕ). appended n earlier false (length pieces / 5) (border_of version lats lons (pieces_of pieces) earlier)) same
    ∙ ap (λ (n : ℕ). appended (up_to (min room (min bytes out))) earlier false n (border_of version lats lons (pieces_of pieces) earlier)) (sym (pieces_many pieces)))

-- ---- both
pub lent_enough : (yards names : ℕ) (o : Offered) (c : Reply (Unit {0})) → c ≡ offer_good yards names o → c ≡ given tt → (wide lent : ℕ) →
    LentFor (min (length o.lats) 65536) wide lent → LentFor (length o.lats) wide lent
unfolding offer_good
lent_enough yards names o c e t wide lent l =
    let few : length o.lats ≤ 65535 = few_points o.lats o.lons (passed_first (checks 0 o.lats o.lons []) _ (sym e ∙ t)) in
    let same : min (length o.lats) 65536 ≡ length o.lats = omega (arith, few) in subst (λ (n : ℕ). LentFor n wide lent) same l where
      passed_first : (c r : Reply (Unit {0})) → (c >> r) ≡ given tt → c ≡ given tt
      passed_first (given tt) r e = refl
      passed_first (refused why) r e = absurd (never_given why tt e)

module _ (held : Held) (o : Offered) (bytes : List ℕ) (room : ℕ) (c : Reply (Unit {0})) (e : c ≡ offer_good held.yards held.names o) where
  pub offer_refused : (why : Refusal) → c ≡ refused why → (out : List ℕ) → Offers held o bytes room out (refused why)
  unfolding Offers
  offer_refused why is out = let bad : offer_good held.yards held.names o ≡ refused why = sym e ∙ is in rw bad refl

  pub offer_drawn : c ≡ given tt → (out : List ℕ) (r : Reply ℕ) → Draws (data_with held o bytes room) (take held.bytes bytes) out r → Offers held o bytes room out r
  unfolding Offers Draws
  offer_drawn t out (given size) d = (sym e ∙ t, d)
  offer_drawn t out (refused why) d = let good : offer_good held.yards held.names o ≡ given tt = sym e ∙ t in rw good d
