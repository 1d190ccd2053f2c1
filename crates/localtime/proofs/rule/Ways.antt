-- The ways through the TZ string of a file. Assumes nothing.
use Rattle.numbers.proofs.Prelude.{ℕ, ◌-◌, ◌≤◌, ◌<◌, eq-eqb, ne_eqb, length, Bool, true, List, ◌≡◌, sym, ap, ◌∙◌, arith}
use Rattle.std.specs.Prelude.{Option, Some, None}
use Rattle.localtime.specs.{Found.{found_of, Short, same_found}, Local.{ask_in, same_as, agrees, HeldAsked}}
use Rattle.tzif.{proofs.Goods.{type_below, type_held}, specs.{Check.{correction_at}, Local.{type_in, type_behind, Good, Held}}}
use Rattle.tzif.specs.{Times.{time_in, transitions_of}, declared.{block.Block.{Block}, local.Found.{Found}, times.Times.{Times}}}
use Rattle.tzrule.{proofs.Laws.{asked_clock}, specs.{Ask.{corrected, ask}, declared.{ask.Time.{Time}, rule.Tz.{Tz}}}}
use Rattle.tzrule.specs.inner.String.{IsClock, IsTz}

-- the instant less its leap seconds
module _ (file : List ℕ) (block : Block) (instant : ℕ) where
  pub ask_is : (tz : Tz) {correction : ℕ} {asked : Option Time} → correction ≡ correction_at file block instant → asked ≡ ask tz (corrected instant correction) → asked ≡ ask_in file block tz instant
  unfolding ask_in
  ask_is tz e a = a ∙ ap (λ (n : ℕ). ask tz (corrected instant n)) e

-- a clock that was asked for has its name in the file
pub asked_held : (end : ℕ) (tz : Tz) (u : ℕ) (asked : Option Time) → IsTz end tz → asked ≡ ask tz u → HeldAsked end asked
asked_held end tz u (Some time) g e = asked_clock end tz u g (sym e)
asked_held end tz u None g e = tt

pub holds_clock : {asked : Option Time} {time : Time} (end : ℕ) → asked ≡ Some time → HeldAsked end asked → IsClock end time.clock
holds_clock end e h = rw e at h

pub clock_short : {time : Time} (end : ℕ) → IsClock end time.clock → Short time
clock_short end c = record { ordered = c.ordered; west = c.west }

pub clock_found : (time : Time) (end : ℕ) {found : Found} → IsClock end time.clock → found ≡ found_of time → Held end found
unfolding found_of
clock_found time end c e = rw e (record { held = omega (arith, c.ordered, c.inside) })

-- the last transition and its type
module _ (file : List ℕ) (block : Block) where
  pub last_is : (n : ℕ) {times : Times} {last : ℕ} → times ≡ transitions_of block → last ≡ time_in file times n → last ≡ time_in file (transitions_of block) n
  last_is n e l = l ∙ ap (λ (t : Times). time_in file t n) e

  module _ (n : ℕ) {type : ℕ} (i : type ≡ type_behind file block n) where
    pub type_is : {found : Found} → found ≡ type_in file block type → found ≡ type_in file block (type_behind file block n)
    type_is f = f ∙ ap (type_in file block) i

    module _ (good : Good file block) (few : n ≤ block.timecnt) where
      pub type_few : type < block.typecnt
      type_few = omega (arith, type_below good n few)

      pub type_within : {found : Found} → found ≡ type_in file block type → Held (length file) found
      type_within f = rw f (type_held good type type_few)

-- the three ways of the agreement
module _ (file : List ℕ) (block : Block) (tz : Tz) where
  pub no_transitions : block.timecnt ≡ 0 → true ≡ agrees file block tz
  unfolding agrees
  no_transitions e = simp (eq-eqb block.timecnt 0 e)

  module _ (some : block.timecnt ≡ 0 → ⊥) {last : ℕ} {asked : Option Time} (l : last ≡ time_in file (transitions_of block) (block.timecnt - 1)) (a : asked ≡ ask_in file block tz last) where
    agrees_as_same : agrees file block tz ≡ same_as file (type_in file block (type_behind file block block.timecnt)) asked
    unfolding agrees
    agrees_as_same = simp (ne_eqb block.timecnt 0 some) (ap (λ (x : Option Time). same_as file (type_in file block (type_behind file block block.timecnt)) x) (sym (a ∙ ap (ask_in file block tz) l)))

    pub not_asked : asked ≡ None → true ≡ agrees file block tz
    unfolding same_as
    not_asked e = sym (agrees_as_same ∙ ap (λ (x : Option Time). same_as file (type_in file block (type_behind file block block.timecnt)) x) e)

    pub compared : {time : Time} {one other : Found} {same : Bool} → asked ≡ Some time → one ≡ type_in file block (type_behind file block block.timecnt) → other ≡ found_of time →
        same ≡ same_found file one other → same ≡ agrees file block tz
    unfolding same_as
    compared {time} {one} {other} e p q s =
        s ∙ ap (λ (x : Found). same_found file x other) p ∙ ap (λ (x : Found). same_found file (type_in file block (type_behind file block block.timecnt)) x) q ∙
        sym (agrees_as_same ∙ ap (λ (x : Option Time). same_as file (type_in file block (type_behind file block block.timecnt)) x) e)
