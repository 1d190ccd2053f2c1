-- What holds before each fix, and what a fix makes of it: the lists hold what the earlier ones came to, and are zero beyond it. Assumes nothing.
use Rattle.numbers.proofs.Prelude.{ℕ, ◌+◌, ◌-◌, ◌*◌, ◌^◌, ◌≤◌, ◌<◌, leb-true, eqb-true, eqb, leb, Float, length, take, drop, get_or, set, length-append, length-replicate, drop_of_length-le, drop-cons}
use Rattle.numbers.proofs.Prelude.{Bool, true, false, ◌&&◌, List, [], ◌∷◌, ◌++◌, append_assoc, ◌≡◌, refl, sym, ap, subst, ◌∙◌, sub-zero, add-one, arith}
use Rattle.numbers.specs.{Lists.{zeros, padded, over}, Reply.{Reply}, declared.refusal.Refusal.{Refusal}}
use Rattle.table.{proofs.{Agreeing.{gave, refused_so}, Words.{words_length, words_append}}, specs.{Hits.{width}, declared.location.Location.{Location}, inner.Agreeing.{Agrees}}}
use Rattle.header.{proofs.Buffers.{tail_back}, specs.declared.header.Head.{Head}}
use Rattle.atlas.specs.Beside.{zones_beside}
use Rattle.zones.{proofs.{Holding.{Held, held_length, held_front, lent, remains_length, written}, Replying.{agrees_of}}, specs.Lent.{Filled, Outcome, Replied, replied, replied_of}}
use Rattle.zones.specs.declared.lookup.Zones.{Zones}
use Rattle.batch.specs.Many.{Batch, given, refused, ◌>>=◌, met_at, is_taken, fixes_of, Stamped, nothing, with_one, each_of, answer_words, left, left_of}
use Rattle.batch.proofs.{Counts.{counts, few}, Few.{Words32}}
use Rattle.numbers.specs.Reply as R
use Rattle.table.specs.Hits as H

-- ---- lists
-- what is zero beyond s, behind what is there
pub on_padded : (n place : ℕ) (out s : List ℕ) → length out ≡ place → out ++ padded (n - place) s ≡ padded n (out ++ s)
on_padded n place out s l = let k : n - place - length s ≡ n - length (out ++ s) = omega (arith, l, length-append out s) in
    sym (append_assoc out s (zeros (n - place - length s))) ∙ ap (λ (m : ℕ). (out ++ s) ++ zeros m) k

-- s in what remained of a buffer, zero beyond it
pub goes_on : {room : ℕ} {out text : List ℕ} {place : ℕ} (g : Held room out text place) (s last : List ℕ) {n : ℕ} → length s ≡ n → last ≡ padded (length (lent g)) s → length last ≡ length (lent g)
    → Held room (out ++ s) (take place text ++ (last ++ drop (length text - place) (drop place text))) (place + n)
goes_on {room} {out} {text} {place} g s last {n} l e same =
    let k : length (lent g) ≡ room - place = remains_length g ∙ ap (λ (m : ℕ). room - m) g.sized in record {
      sized = length-append out s ∙ omega (arith, g.sized, l);
      fits = omega (arith, g.fits, l, k, sym same ∙ ap length e ∙ length-append s (zeros (length (lent g) - length s)), length-replicate {A = ℕ} (length (lent g) - length s) 0);
      kept = tail_back place text last ∙ ap (λ (r : List ℕ). r ++ last) (held_front g) ∙ ap (λ (r : List ℕ). out ++ r) (e ∙ ap (λ (m : ℕ). padded m s) k) ∙ on_padded room place out s g.sized;
    }

-- the buffer kept its length, and so did what was lent of it
pub came_back : {room : ℕ} {out text : List ℕ} {place : ℕ} (g : Held room out text place) (last : List ℕ)
    → length (take place text ++ (last ++ drop (length text - place) (drop place text))) ≡ length text → length last ≡ length (lent g)
came_back {room} {out} {text} {place} g last same =
    let whole : length (take place text) + length last ≡ length text = sym (length-append (take place text) last) ∙ sym (ap length (tail_back place text last)) ∙ same in
    omega (arith, ap length (held_front g), g.sized, g.fits, held_length g, remains_length g, whole)

held_at : {room : ℕ} {out out' text : List ℕ} {place place' : ℕ} → out ≡ out' → place ≡ place' → Held room out text place → Held room out' text place'
held_at {room} {out} {out'} {text} {place} {place'} e f g = record { sized = sym (ap length e) ∙ g.sized ∙ f; fits = omega (arith, g.fits, f); kept = g.kept ∙ ap (padded room) e }

pub answer_words_snoc : (xs : List Zones) (zones : Zones) → answer_words (xs ++ zones ∷ []) ≡ answer_words xs ++ answer_words (zones ∷ [])
unfolding answer_words
answer_words_snoc [] zones = refl
answer_words_snoc (x ∷ xs) zones = ap (λ (ws : List ℕ). x.matches ∷ x.mark ∷ x.safezone ∷ ws) (answer_words_snoc xs zones)

pub three_words : (xs : List Zones) → length (answer_words xs) ≡ 3 * length xs
unfolding answer_words
three_words [] = refl
three_words (x ∷ xs) = omega (arith, three_words xs)

pub answer_put : (d : List ℕ) (zones : Zones) → 3 ≤ length d → set (set (set d 0 zones.matches) 1 zones.mark) 2 zones.safezone ≡ over (answer_words (zones ∷ [])) d
unfolding answer_words
answer_put [] zones h = absurd (omega arith)
answer_put (a ∷ []) zones h = absurd (omega arith)
answer_put (a ∷ b ∷ []) zones h = absurd (omega arith)
answer_put (a ∷ b ∷ c ∷ d) zones h = refl

-- lists that go together
pub taken : (lats lons third : ℕ) → is_taken lats lons third ≡ true → (lats ≡ lons) × (3 * lats ≤ third)
taken lats lons third e = let all = go (eqb lats lons) (leb lats 4096) (leb (3 * lats) third) e in (eqb-true _ _ all.0, leb-true _ _ all.1) where
  go : (a b c : Bool) → (a && (b && c)) ≡ true → (a ≡ true) × (c ≡ true)
  go true true true e = (refl, refl)
  go true true false e = (refl, e)
  go true false c e = let z : ◌≡◌ {A = ℕ} 0 1 = cc in absurd (omega arith)
  go false b c e = let z : ◌≡◌ {A = ℕ} 0 1 = cc in absurd (omega arith)

-- the fix at an index is the first of those from there on
pub fix_at : (lats lons : List Float) (i : ℕ) (d d' : Float) → i < length lats → i < length lons
    → fixes_of (drop i lats) (drop i lons) ≡ record { lat = get_or lats i d; lon = get_or lons i d' } ∷ fixes_of (drop (i + 1) lats) (drop (i + 1) lons)
unfolding fixes_of
fix_at lats lons i d d' h k =
    (λ j. fixes_of (drop-cons lats i d h j) (drop-cons lons i d' k j))
    ∙ ap (λ (m : ℕ). record { lat = get_or lats i d; lon = get_or lons i d' } ∷ fixes_of (drop m lats) (drop m lons)) (sym (add-one i))

-- ---- what one lookup gave
-- a lookup through an atlas or none: the reply and both lent buffers
abbrev pub looked : List ℕ → Head → List ℕ → Location → Bool → ℕ → ℕ → Replied Zones
looked file head words fix asked n room = replied_of n room (zones_beside file head words fix asked n room)

pub record One (file : List ℕ) (head : Head) (words : List ℕ) (fix : Location) (asked : Bool) (n room : ℕ) (hs ts : List ℕ) (zones : Zones) : Type 0 where
  pub it : Outcome Zones
  pub is : R.given it ≡ zones_beside file head words fix asked n room
  pub answer : it.answer ≡ zones
  pub hits : hs ≡ padded n (H.words it.matches)
  pub text : ts ≡ padded room it.text

module _ (file : List ℕ) (head : Head) (words : List ℕ) (fix : Location) (asked : Bool) (n room : ℕ) (r : Reply Zones) (hs ts : List ℕ)
    (e : replied r hs ts ≡ looked file head words fix asked n room) where
  agrees : Agrees (Filled n room hs ts) (zones_beside file head words fix asked n room) r
  agrees = agrees_of n room (zones_beside file head words fix asked n room) r hs ts e

  pub one_refused : {why : Refusal} → r ≡ R.refused why → R.refused why ≡ zones_beside file head words fix asked n room
  one_refused is = refused_so (Filled n room hs ts) _ agrees is

  pub one_given : {zones : Zones} → r ≡ R.given zones → One file head words fix asked n room hs ts zones
  unfolding replied_of
  one_given {zones} is = let g = gave (Filled n room hs ts) _ agrees is in
      let said : R.given zones ≡ R.given g.it.answer = ap (λ (x : Replied Zones). x.reply) g.fits in
      record { it = g.it; is = g.is; answer = cc; hits = ap (λ (x : Replied Zones). x.hits) g.fits; text = ap (λ (x : Replied Zones). x.text) g.fits }

-- ---- fix by fix
module _ (file : List ℕ) (head : Head) (words : List ℕ) (asked : Bool) (n room third : ℕ) (lats lons : List Float) where
  abbrev pub each : List Location → Stamped → Batch Stamped
  each = each_of (λ fix. zones_beside file head words fix asked) n room

  pub record Stamping (whole : Batch Stamped) (hits text answers : List ℕ) (i matches used : ℕ) : Type 0 where
    pub so : Stamped
    pub index : length so.answers ≡ i
    pub counted : length so.matches ≡ matches
    pub words_held : Held n (H.words so.matches) hits (width * matches)
    pub text_held : Held room so.text text used
    pub answers_held : Held third (answer_words so.answers) answers (3 * i)
    pub so_far : each (fixes_of (drop i lats) (drop i lons)) so ≡ whole

  -- the same, by another name of the bytes used
  pub used_is : {whole : Batch Stamped} {hits text answers : List ℕ} {i matches used used' : ℕ} → used ≡ used' → Stamping whole hits text answers i matches used
      → Stamping whole hits text answers i matches used'
  used_is {whole} {hits} {text} {answers} {i} {matches} e = subst (Stamping whole hits text answers i matches) e

  pub begins : (hits text answers : List ℕ) → hits ≡ zeros n → text ≡ zeros room → answers ≡ zeros third → Stamping (each (fixes_of lats lons) nothing) hits text answers 0 0 0
  unfolding H.words answer_words
  begins hits text answers h t a = record {
    so = nothing;
    index = refl;
    counted = refl;
    words_held = record { sized = refl; fits = omega arith; kept = h ∙ ap zeros (sym (sub-zero n)) };
    text_held = record { sized = refl; fits = omega arith; kept = t ∙ ap zeros (sym (sub-zero room)) };
    answers_held = record { sized = refl; fits = omega arith; kept = a ∙ ap zeros (sym (sub-zero third)) };
    so_far = refl;
  }

  module _ {whole : Batch Stamped} {hits text answers : List ℕ} {i matches used : ℕ} (g : Stamping whole hits text answers i matches used) where
    -- all fixes are answered
    pub ends : length lats ≤ i → {fixes : ℕ} → fixes ≡ i → left (given (record { fixes = fixes; matches = matches; used = used })) hits text answers ≡ left_of n room third whole
    unfolding left_of fixes_of each_of
    ends h f = (λ j. left (given (record { fixes = f j; matches = matches; used = used })) hits text answers) ∙
        (λ j. left (given (record { fixes = sym g.index j; matches = sym g.counted j; used = sym g.text_held.sized j })) (g.words_held.kept j)
        (g.text_held.kept j) (g.answers_held.kept j))
        ∙ ap (left_of n room third) (ap (λ (l : List Float). each (fixes_of l (drop i lons)) g.so) (sym (drop_of_length-le lats {i = i} h)) ∙ g.so_far)

    module _ (same : length lats ≡ length lons) (more : i < length lats) (d d' : Float) (r : Reply Zones) (hs ts : List ℕ) where
      abbrev fix : Location
      fix = record { lat = get_or lats i d; lon = get_or lons i d' }

      unrolled : (met_at i (zones_beside file head words fix asked (n - width * matches) (room - used)) >>= λ o. each (fixes_of (drop (i + 1) lats) (drop (i + 1) lons)) (with_one g.so o)) ≡ whole
      unfolding each_of
      unrolled =
          (λ j. met_at (sym g.index j) (zones_beside file head words fix asked (n - sym g.words_held.sized j) (room - sym g.text_held.sized j)) >>= λ o.
          each (fixes_of (drop (i + 1) lats) (drop (i + 1) lons)) (with_one g.so o)) ∙ ap (λ (l : List Location). each l g.so) (sym (fix_at lats lons i d d' more (omega arith))) ∙ g.so_far

      module _ (e : replied r hs ts ≡ looked file head words fix asked (length (lent g.words_held)) (length (lent g.text_held))) where
        -- the words and bytes that are left
        left_words : length (lent g.words_held) ≡ n - width * matches
        left_words = remains_length g.words_held ∙ ap (λ (m : ℕ). n - m) g.words_held.sized

        left_bytes : length (lent g.text_held) ≡ room - used
        left_bytes = remains_length g.text_held ∙ ap (λ (m : ℕ). room - m) g.text_held.sized

        here : replied r hs ts ≡ looked file head words fix asked (n - width * matches) (room - used)
        here = e ∙ (λ j. looked file head words fix asked (left_words j) (left_bytes j))

        -- the fix is refused
        pub stops : {why : Refusal} (hits' text' answers' : List ℕ) → r ≡ R.refused why → hits' ≡ zeros n → text' ≡ zeros room → answers' ≡ zeros third
            → left (refused i why) hits' text' answers' ≡ left_of n room third whole
        unfolding left_of
        stops {why} hits' text' answers' is h t a =
            (λ j. left (refused i why) (h j) (t j) (a j)) ∙ ap (left_of n room third) (ap (λ (x : Reply (Outcome Zones)). met_at i x >>= λ o. each
            (fixes_of (drop (i + 1) lats) (drop (i + 1) lons)) (with_one g.so o)) (one_refused file head words fix asked _ _ r hs ts here is) ∙ unrolled)

        module _ {zones : Zones} (is : r ≡ R.given zones) where
          pub one : One file head words fix asked (n - width * matches) (room - used) hs ts zones
          one = one_given file head words fix asked _ _ r hs ts here is

          matched : length one.it.matches ≡ zones.matches
          matched = sym (counts file head words fix asked _ _ one.is).0 ∙ ap (λ (z : Zones). z.matches) one.answer

          lettered : length one.it.text ≡ zones.used
          lettered = sym (counts file head words fix asked _ _ one.is).1 ∙ ap (λ (z : Zones). z.used) one.answer

          -- its matches can be counted in a word
          pub counted_few : Words32 words → head.sections.metadata < 2 ^ 32 → zones.matches < 2 ^ 32
          counted_few small table = subst (λ (m : ℕ). m < 2 ^ 32) matched (few file head words fix asked _ _ small table one.is)

          -- its matches go behind those of the earlier ones
          pub words_on : length hs ≡ length (lent g.words_held) → Held n (H.words (g.so.matches ++ one.it.matches))
              (take (width * matches) hits ++ (hs ++ drop (length hits - width * matches) (drop (width * matches) hits))) (width * (matches + zones.matches))
          words_on lh =
              held_at (sym (words_append g.so.matches one.it.matches)) (omega (arith, words_length one.it.matches, matched))
              (goes_on g.words_held (H.words one.it.matches) hs refl (one.hits ∙ ap (λ (m : ℕ). padded m (H.words one.it.matches)) (sym left_words)) lh)

          -- and so do its text and its answer
          pub goes : (back : List ℕ) → length hs ≡ length (lent g.words_held) → length ts ≡ length (lent g.text_held) → 3 * i + 3 ≤ third
              → back ≡ over (answer_words (zones ∷ [])) (lent g.answers_held)
              → Stamping whole (take (width * matches) hits ++ (hs ++ drop (length hits - width * matches) (drop (width * matches) hits)))
              (take used text ++ (ts ++ drop (length text - used) (drop used text))) (take (3 * i) answers ++ (back ++ drop (length answers - 3 * i) (drop (3 * i) answers)))
              (i + 1) (matches + zones.matches) (used + zones.used)
          goes back lh lt room-left b = let o = one.it in record {
            so = with_one g.so o;
            index = length-append g.so.answers (o.answer ∷ []) ∙ ap (λ (m : ℕ). m + 1) g.index;
            counted = length-append g.so.matches o.matches ∙ omega (arith, g.counted, matched);
            words_held = words_on lh;
            text_held = goes_on g.text_held o.text ts lettered (one.text ∙ ap (λ (m : ℕ). padded m o.text) (sym left_bytes)) lt;
            answers_held =
                held_at (sym (answer_words_snoc g.so.answers o.answer ∙ ap (λ (z : Zones). answer_words g.so.answers ++ answer_words (z ∷ [])) one.answer)) (omega arith)
                (written g.answers_held (answer_words (zones ∷ [])) back (three_words (zones ∷ [])) (omega (arith, room-left, g.answers_held.sized)) b);
            so_far = ap (λ (x : Reply (Outcome Zones)). met_at i x >>= λ o. each (fixes_of (drop (i + 1) lats) (drop (i + 1) lons)) (with_one g.so o)) one.is ∙ unrolled;
          }
