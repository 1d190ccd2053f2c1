-- Room that a drop frees is there again: what fits is asked of the sums alone, and a drop takes an add back. Assumes nothing.
use Rattle.numbers.proofs.Prelude.{ℕ, ◌-◌, eq-eqb, lt-ltb, eqb, leb, length, take, take_at, Bool, true, ◌&&◌, List, [], ◌∷◌, ◌++◌, ◌≡◌, sym, ap, ◌∙◌, arith}
use Rattle.numbers.{proofs.{Replies.{met}, Tests.{both}}, specs.Reply.{given, plain, demand, ◌>>◌}}
use Rattle.builder.specs.{File.{are_texts, file_of, head_of, is_text, up_to}, Yards.{Plan, Yard, cut_by, sum_of}}
use Rattle.writer.specs.Writer.{every}
use Rattle.draft.proofs.held.{Adds.{Added, add_given}, Standing.{readable_parts}, Sums.{size_is}, Texts.{joined_yards}}
use Rattle.draft.specs.Held.{Builder.{Builder, Offered, holding, joined, summed, yard_of, fitting, add, drop_last}, Sound.{Sound}, Space.{Space}, Totals.{Totals, data_of, file_size, totals_of}}

-- the sums say how long the file is, so what fits is asked of them alone
pub fits_by_sums : (space : Space) (b : Builder) → b.totals ≡ totals_of b.plan →
    fitting space b ≡ (demand (space.lists && leb (length (file_of b.plan (data_of b.plan))) (up_to b.room)) (plain 28) >> given b)
unfolding fitting totals_of
fits_by_sums space b fresh =
    ap (λ (n : ℕ). demand (space.lists && leb n (up_to b.room)) (plain 28) >> given b) (ap (file_size (length (head_of b.plan))) fresh ∙ size_is b.plan (data_of b.plan))

-- ---- a drop takes an add back
module _ (b : Builder) (sound : Sound b.plan b.room) (fresh : b.totals ≡ totals_of b.plan) (o : Offered) (space : Space) (next : Builder) (added : add b o space ≡ given next) where
  a : Added b o space next
  a = add_given b o space next added

  whole : leb (sum_of o.lengths) (length o.texts) ≡ true
  unfolding are_texts
  whole = (both (leb (sum_of o.lengths) (length o.texts)) (every is_text (cut_by o.lengths o.texts)) a.texts).0

  plan_back : holding (joined b.plan o) (take (length (joined b.plan o).yards - 1) (joined b.plan o).yards) ≡ b.plan
  unfolding joined
  plan_back = let p : Plan = b.plan in let size : length p.yards ≡ length (p.yards ++ (yard_of o ∷ [])) - 1 = omega (arith, joined_yards p o) in
      let back : take (length (p.yards ++ (yard_of o ∷ [])) - 1) (p.yards ++ (yard_of o ∷ [])) ≡ p.yards = take_at p.yards (yard_of o ∷ []) (length (p.yards ++ (yard_of o ∷ [])) - 1) size in
      let numbered : (p.numbered && eqb (length p.names) (length o.lengths)) ≡ p.numbered = ap (λ (x : Bool). x && eqb (length p.names) (length o.lengths))
      sound.numbered ∙ (eq-eqb (length p.names) (length o.lengths) a.valued ∙ sym sound.numbered) in
      let texts : (p.whole && leb (sum_of o.lengths) (length o.texts)) ≡ p.whole = ap (λ (x : Bool). x && leb (sum_of o.lengths) (length o.texts))
      (readable_parts p sound.texts).0 ∙ (whole ∙ sym (readable_parts p sound.texts).0) in
      ap (λ (ys : List Yard). record {
        kind = p.kind;
        version = p.version;
        precision = p.precision;
        names = p.names;
        notice = p.notice;
        yards = ys;
        numbered = p.numbered && eqb (length p.names)
            (length o.lengths);
        whole = p.whole && leb (sum_of o.lengths) (length o.texts);
      }) back
      ∙ (ap (λ (x : Bool). record {
        kind = p.kind;
        version = p.version;
        precision = p.precision;
        names = p.names;
        notice = p.notice;
        yards = p.yards;
        numbered = x;
        whole = p.whole && leb (sum_of o.lengths)
            (length o.texts);
      }) numbered
      ∙ ap (λ (x : Bool). record { kind = p.kind; version = p.version; precision = p.precision; names = p.names; notice = p.notice; yards = p.yards; numbered = p.numbered; whole = x }) texts)

  same_builder : summed b.plan b.room ≡ b
  unfolding summed
  same_builder = ap (λ (t : Totals). record { plan = b.plan; room = b.room; totals = t }) (sym fresh)

  -- the builder is what it was, and so is all that it says next
  pub dropped_frees : (later : Space) → drop_last next later ≡ (demand later.lists (plain 28) >> given b)
  unfolding drop_last summed
  dropped_frees later = let all : Plan = joined b.plan o in
      ap (λ (x : Builder). drop_last x later) a.is ∙ (sym (met (lt-ltb 0 (length all.yards) (omega (arith, joined_yards b.plan o))) (plain 29)
      (demand later.lists (plain 28) >> given (summed (holding all (take (length all.yards - 1) all.yards)) b.room)))
      ∙ ap (λ (x : Builder). demand later.lists (plain 28) >> given x) (ap (λ (p : Plan). summed p b.room) plan_back ∙ same_builder))
