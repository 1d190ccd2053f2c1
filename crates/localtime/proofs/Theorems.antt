-- What Q-10 keeps of Q-9, and what it adds, by name. Assumes nothing.
use Rattle.numbers.{proofs.Prelude.{ℕ, ◌-◌, ◌<◌, eq-eqb, ne_eqb, lt-ltb, eqb, ℤ, lt_z, Bool, true, false, List, ◌≡◌, refl, sym, ap, ◌∙◌, w64, SFits, arith}, specs.Answer.{if◌then◌else◌}}
use Rattle.std.specs.Prelude.{Option, Some, None}
use Rattle.localtime.proofs.local.Ways.{no_transitions, after_last}
use Rattle.localtime.specs.{Found.{found_of}, Local.{ask_in, rules_in, is_ruled, by_rule, answer_by, answer_at, local_time_by, local_time, scale_in, scale_or, scale_by, scale_at}}
use Rattle.localtime.specs.declared.{local.Timed.{Timed}, scale.Scale.{Scale}}
use Rattle.tzif.specs.{Check.{correction_at}, Last.{Octets, transition_time}, Local.{is_after_last, by_table, lent, named, replied, Replied}, Number.{raised, lift}, Reply.{Reply, given, refused, ◌>>=◌}}
use Rattle.tzif.specs.{Zone.{read_zone}, declared.{block.Block.{Block}, local.{Found.{Found}, Local.{Local}}, refusal.Refusal.{Refusal}, zone.Zone.{Zone}}}
use Rattle.tzrule.specs.{Ask.{corrected, in_years, clock_at, ask}, declared.rule.Tz.{Tz}}
use Rattle.tzif.proofs.Theorems as last
use Rattle.tzif.specs.Local as plain

-- two replies that the promise of `local_time` permits are equal, with all of the lent text and the scale
pub same_local_time : (file : List ℕ) (instant : ℤ) (room : ℕ) (r q : Timed) (s t : List ℕ) → (replied r.time s ≡ local_time file instant room) × (r.scale ≡ scale_at file instant)
    → (replied q.time t ≡ local_time file instant room) × (q.scale ≡ scale_at file instant) → (r ≡ q) × (s ≡ t)
same_local_time file instant room r q s t p e = let same = p.0 ∙ sym e.0 in
    ((λ i. record { time = ap (λ (x : Replied). x.reply) same i; scale = (p.1 ∙ sym e.1) i }), ap (λ (x : Replied). x.text) same)

-- ---- the scale
-- UNIX time's, or the file's own
pub data Known : ℕ → Type 0 where
  unix : Known 1
  own : Known 2

module _ (file : List ℕ) (instant : ℤ) where
  -- a file is refused with its scale: there is none
  pub no_scale : {zone : Zone} {why : Refusal} → read_zone file ≡ given zone → rules_in file zone ≡ refused why → (scale_at file instant).kind ≡ 0
  unfolding scale_by scale_or ◌>>=◌
  no_scale z r = simp (z, r)

  module _ {zone : Zone} (z : read_zone file ≡ given zone) {rules : Option Tz} (r : rules_in file zone ≡ given rules) where
    -- without leap-second records in the block that answers it is UNIX time's, and nothing is corrected
    pub unix_scale : zone.block.leapcnt ≡ 0 → scale_at file instant ≡ record { kind = 1; correction = 0 }
    unfolding scale_by scale_or scale_in ◌>>=◌
    unix_scale e = simp (z, r, eq-eqb zone.block.leapcnt 0 e)

    -- with records it is the file's own, at every instant
    pub own_scale : (zone.block.leapcnt ≡ 0 → ⊥) → (scale_at file instant).kind ≡ 2
    unfolding scale_by scale_or scale_in ◌>>=◌
    own_scale h = simp (z, r, ne_eqb zone.block.leapcnt 0 h)

  in_known : (zone : Zone) → Known (scale_in file zone.block (lift instant)).kind
  unfolding scale_in
  in_known zone = go (eqb zone.block.leapcnt 0) where
    kind_of : Scale → ℕ
    kind_of scale = scale.kind

    go : (t : Bool) → Known (kind_of (if t then record { kind = 1; correction = 0 } else record { kind = 2; correction = raised (correction_at file zone.block (lift instant)) }))
    go true = unix
    go false = own

  -- where local time is known, so is the scale
  pub known_scale : (room : ℕ) {local : Local} → (local_time file instant room).reply ≡ given (Some local) → Known (scale_at file instant).kind
  unfolding local_time_by answer_at scale_by scale_or lent ◌>>=◌
  known_scale room {local} e = zones (read_zone file) e where
    rest : (zone : Zone) (rules : Reply (Option Tz)) → (lent file room (rules >>= λ by. answer_by file zone.block by (lift instant))).reply ≡ given (Some local)
        → Known (scale_or (rules >>= λ by. given (scale_in file zone.block (lift instant)))).kind
    rest zone (given by) e = in_known zone
    rest zone (refused why) e = let z : ◌≡◌ {A = ℕ} 0 1 = cc in absurd (omega arith)

    zones : (read : Reply Zone) → (lent file room (read >>= λ zone. rules_in file zone >>= λ by. answer_by file zone.block by (lift instant))).reply ≡ given (Some local)
        → Known (scale_or (read >>= λ zone. rules_in file zone >>= λ by. given (scale_in file zone.block (lift instant)))).kind
    zones (given zone) e = rest zone (rules_in file zone) e
    zones (refused why) e = let z : ◌≡◌ {A = ℕ} 0 1 = cc in absurd (omega arith)

-- ---- what stays of Q-9

-- where Q-9 refuses, the refusal stays
pub q10_refuses : (file : List ℕ) (instant : ℤ) (room : ℕ) {why : Refusal} → read_zone file ≡ refused why → local_time file instant room ≡ plain.local_time file instant room
unfolding local_time_by answer_at plain.local_time_by ◌>>=◌
q10_refuses file instant room e = simp e

-- an instant that the transitions answer is not after the last
listed : (file : List ℕ) (block : Block) (instant : ℕ) {found : Found} → by_table file block instant ≡ Some found → is_after_last file block instant ≡ false
unfolding by_table
listed file block instant {found} e = go (is_after_last file block instant) refl where
  go : (t : Bool) → is_after_last file block instant ≡ t → t ≡ false
  go true a = let z : ◌≡◌ {A = ℕ} 0 1 = cc (let un : None ≡ Some found = simp a at e in un) in absurd (omega arith)
  go false a = refl

module _ (file : List ℕ) (instant : ℤ) (room : ℕ) {zone : Zone} (z : read_zone file ≡ given zone) where
  same_answer : {rules : Option Tz} → rules_in file zone ≡ given rules → answer_by file zone.block rules (lift instant) ≡ given (by_table file zone.block (lift instant)) →
      local_time file instant room ≡ plain.local_time file instant room
  unfolding local_time_by answer_at plain.local_time_by ◌>>=◌
  same_answer r a = simp (z, r, a)

  no_string : zone.size ≡ 0 → rules_in file zone ≡ given None
  unfolding rules_in
  no_string e = simp (eq-eqb zone.size 0 e)

  -- a file without a string answers as in Q-9
  pub q10_without : zone.size ≡ 0 → local_time file instant room ≡ plain.local_time file instant room
  unfolding answer_by
  q10_without e = same_answer (no_string e) refl

  by_cases : (rules : Option Tz) → (zone.block.timecnt ≡ 0 → rules ≡ None) → is_after_last file zone.block (lift instant) ≡ false →
      answer_by file zone.block rules (lift instant) ≡ given (by_table file zone.block (lift instant))
  unfolding answer_by is_ruled
  by_cases None h a = refl
  by_cases (Some tz) h a = let some : zone.block.timecnt ≡ 0 → ⊥ = λ e. (let clash : ◌≡◌ {A = ℕ} 0 1 = cc (h e) in omega arith) in
      simp (ne_eqb zone.block.timecnt 0 some, a)

  -- where Q-9 answers and the file is not refused 60 the answer stays, unless it has a string and no transitions
  pub q10_extends : {rules : Option Tz} {found : Found} → rules_in file zone ≡ given rules → (zone.block.timecnt ≡ 0 → zone.size ≡ 0) →
      by_table file zone.block (lift instant) ≡ Some found → local_time file instant room ≡ plain.local_time file instant room
  q10_extends {rules} r h f =
      let none : zone.block.timecnt ≡ 0 → rules ≡ None = λ e. (let same : given rules ≡ given None = sym r ∙ no_string (h e) in cc) in
      same_answer r (by_cases rules none (listed file zone.block (lift instant) f))

-- ---- by the string
module _ (file : List ℕ) (instant : ℤ) (room : ℕ) {zone : Zone} (z : read_zone file ≡ given zone) {tz : Tz} (r : rules_in file zone ≡ given (Some tz)) where
  -- the instant in UNIX time, more 2 ^ 63: less the leap seconds that the file counts
  abbrev as_unix : ℕ
  as_unix = corrected (lift instant) (correction_at file zone.block (lift instant))

  ruled : is_ruled file zone.block (lift instant) ≡ true → in_years as_unix ≡ true → answer_by file zone.block (Some tz) (lift instant) ≡ given (Some (found_of (clock_at tz as_unix)))
  unfolding answer_by ask_in ask by_rule
  ruled h y = simp (h, y)

  by_string : is_ruled file zone.block (lift instant) ≡ true → in_years as_unix ≡ true → local_time file instant room ≡ named file room (found_of (clock_at tz as_unix))
  unfolding local_time_by answer_at lent ◌>>=◌
  by_string h y = simp (z, r, ruled h y)

  -- a file without transitions: the string's clock holds at every instant of its years
  pub throughout_by_string : zone.block.timecnt ≡ 0 → in_years as_unix ≡ true → local_time file instant room ≡ named file room (found_of (clock_at tz as_unix))
  throughout_by_string none y = by_string (sym (no_transitions file zone.block (lift instant) none)) y

  -- after the last transition the string's clock holds
  pub after_last_by_string : Octets file → SFits w64 instant → 0 < zone.block.timecnt → lt_z (transition_time file zone.block (zone.block.timecnt - 1)) instant ≡ true → in_years as_unix ≡ true
      → local_time file instant room ≡ named file room (found_of (clock_at tz as_unix))
  after_last_by_string octets fits some later y =
      let after : is_after_last file zone.block (lift instant) ≡ true = last.after_last file octets zone.block instant fits ∙ simp (lt-ltb 0 zone.block.timecnt some, later) in
      by_string (sym (after_last file zone.block (lift instant) (λ e. omega (arith, some, e))) ∙ after) y
