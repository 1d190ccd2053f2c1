-- Which numbers a call can be refused with. Assumes nothing.
use Rattle.numbers.proofs.Prelude.{ℕ, zero, suc, eqb, leb, ℤ, Bool, true, false, ◌&&◌, List, [], ◌∷◌, ◌≡◌, refl, subst, arith}
use Rattle.numbers.{proofs.Refusals.{Listed}, specs.{Answer.{if◌then◌else◌}, Lists.{zeros, padded}}}
use Rattle.tzif.specs.{Block.{end_of}, Check.{is_expiry, nul_end, check_time, check_index, check_type, check_leap, check_leaps, check_standard, check_ut}}
use Rattle.tzif.specs.{Header.{rfc9636, is_fourth, check_header, block_at, check_counts, check_block, read_block}, Local.{Replied, replied, lent, local_time_by, local_time}, Number.{octet}}
use Rattle.tzif.specs.{Part.{count_of, check_of, check_part}, Reply.{Reply, given, refused, refusal, demand, each, ◌>>=◌, ◌>>◌}, Text.{slice}, Zone.{read_footer, read_short, read_long, read_zone_by}}
use Rattle.tzif.specs.{Part.{Part}, declared.{block.Block.{Block}, local.{Found.{Found}, Local.{Local}}, refusal.Refusal.{Refusal}}}
use Rattle.std.specs.Prelude.{Option, Some, None}
use Rattle.tzif.specs.Part as P

-- 1 for the length, 18 for the room, and one for each rule of the RFC
abbrev pub local_numbers : List ℕ
local_numbers = 1 ∷ 18 ∷ 40 ∷ 41 ∷ 42 ∷ 43 ∷ 44 ∷ 45 ∷ 46 ∷ 47 ∷ 48 ∷ 49 ∷ 50 ∷ 51 ∷ 52 ∷ 53 ∷ 54 ∷ 55 ∷ 56 ∷ 57 ∷ 58 ∷ 59 ∷ []

-- a number that it is refused with is listed
pub data NumberedReply (P : ℕ → Type 0) {A : Type 0} : Reply A → Type 0 where
  answers : {a : A} → NumberedReply P (given a)
  refuses : {why : Refusal} → P why.number → NumberedReply P (refused why)

module _ {P : ℕ → Type 0} where
  pub then_reply : {A B : Type 0} {reply : Reply A} {next : A → Reply B} → NumberedReply P reply → ((a : A) → NumberedReply P (next a)) → NumberedReply P (reply >>= next)
  unfolding ◌>>=◌
  then_reply answers k = k _
  then_reply (refuses h) k = refuses h

  pub and_then : {A : Type 0} {reply : Reply (Unit {0})} {next : Reply A} → NumberedReply P reply → NumberedReply P next → NumberedReply P (reply >> next)
  unfolding ◌>>◌
  and_then answers k = k
  and_then (refuses h) k = refuses h

  pub demands : (test : Bool) (why : Refusal) → P why.number → NumberedReply P (demand test why)
  unfolding demand
  demands true why h = answers
  demands false why h = refuses h

  pub either : {A : Type 0} (test : Bool) {a b : Reply A} → NumberedReply P a → NumberedReply P b → NumberedReply P (if test then a else b)
  either true on off = on
  either false on off = off

  pub all : (n : ℕ) {check : ℕ → Reply (Unit {0})} → ((i : ℕ) → NumberedReply P (check i)) → NumberedReply P (each n check)
  unfolding each
  all zero k = answers
  all (suc n) k = and_then (all n k) (k n)

-- ---- a file's checks
abbrev Mine : {A : Type 0} → Reply A → Type 0
Mine = NumberedReply (Listed local_numbers)

module _ (file : List ℕ) where
  leap : (fourth : Bool) (block : Block) (i : ℕ) → Mine (check_leap file fourth block i)
  unfolding check_leap
  leap fourth block i = either (fourth && is_expiry file block i) (demands _ _ refl) (and_then (demands _ _ refl) (demands _ _ refl))

  leaps : (fourth : Bool) (block : Block) → Mine (check_leaps file fourth block)
  unfolding check_leaps
  leaps fourth block = all block.leapcnt (leap fourth block)

  entry : (block : Block) (part : Part) (i : ℕ) → Mine (check_of file block part i)
  unfolding check_of check_time check_index check_type check_standard check_ut
  entry block P.Times i = either (eqb i 0) answers (demands _ _ refl)
  entry block P.Indices i = demands _ _ refl
  entry block (P.Types nul) i = and_then (demands _ _ refl) (and_then (demands _ _ refl) (and_then (demands _ _ refl) (demands _ _ refl)))
  entry block P.Standards i = demands _ _ refl
  entry block P.Uts i = demands _ _ refl

  part : (block : Block) (p : Part) → Mine (check_part file block p)
  unfolding check_part
  part block p = all (count_of block p) (entry block p)

  parts : (fourth : Bool) (block : Block) → Mine (check_block file fourth block)
  unfolding check_block
  parts fourth block =
      and_then (part block P.Times) (and_then (part block P.Indices) (and_then (part block (P.Types (nul_end file block))) (and_then (leaps fourth block)
      (and_then (part block P.Standards) (part block P.Uts)))))

  header : (wide : Bool) (at : ℕ) → Mine (check_header rfc9636 file wide at)
  unfolding check_header
  header wide at = and_then (demands _ _ refl) (and_then (demands _ _ refl) (demands _ _ refl))

  counts : (at : ℕ) (block : Block) → Mine (check_counts file at block)
  unfolding check_counts
  counts at block = and_then (demands _ _ refl) (and_then (demands _ _ refl) (and_then (demands _ _ refl) (and_then (demands _ _ refl) (demands _ _ refl))))

  a_block : (wide : Bool) (at : ℕ) → Mine (read_block rfc9636 file wide at)
  unfolding read_block
  a_block wide at = and_then (header wide at) (and_then (counts at (block_at file wide at)) (and_then (parts (is_fourth rfc9636 (octet file 4)) (block_at file wide at)) answers))

  footer : (at : ℕ) → Mine (read_footer file at)
  unfolding read_footer
  footer at = and_then (demands _ _ refl) (and_then (demands _ _ refl) (and_then (demands _ _ refl) answers))

  short : (block : Block) → Mine (read_short file block)
  unfolding read_short
  short block = and_then (demands _ _ refl) answers

  long : (first : Block) → Mine (read_long rfc9636 file first)
  unfolding read_long
  long first = then_reply (a_block true (end_of first)) (λ block. then_reply (footer (end_of block)) (λ size. answers))

  pub zone_numbered : Mine (read_zone_by rfc9636 file)
  unfolding read_zone_by
  zone_numbered = and_then (demands _ _ refl) (then_reply (a_block false 0) (λ first. either (eqb (octet file 4) 0) (short first) (long first)))

-- ---- the whole call
-- a reply is refused with 18, or with what its answer is
module _ (P : ℕ → Type 0) (room-number : P 18) where
  number_of_lem : {why : Refusal} {r : Reply (Option Local)} → r ≡ refused why → {why' : Refusal} → r ≡ refused why' → P why'.number → P why.number
  number_of_lem {why} {r} e {why'} e' h = let same : why' ≡ why = cc in subst (λ (w : Refusal). P w.number) same h

  pub of_lent : (file : List ℕ) (room : ℕ) {answer : Reply (Option Found)} → NumberedReply P answer → (why : Refusal) → (lent file room answer).reply ≡ refused why → P why.number
  unfolding lent
  of_lent file room (answers {a = Some found}) why e = go (leb found.length room) e where
    local : Replied
    local = replied (given (Some (record { offset = found.offset; daylight = found.daylight; length = found.length }))) (padded room (slice file found.place found.length))

    go : (t : Bool) → (if t then local else replied (refused (refusal 18 0)) (zeros room)).reply ≡ refused why → P why.number
    go true e = let z : ◌≡◌ {A = ℕ} 0 1 = cc in absurd (omega arith)
    go false e = number_of_lem e refl room-number
  of_lent file room (answers {a = None}) why e = let z : ◌≡◌ {A = ℕ} 0 1 = cc in absurd (omega arith)
  of_lent file room (refuses h) why e = number_of_lem e refl h

-- a call that is refused is refused with one of these
pub local_time_refusals : (file : List ℕ) (instant : ℤ) (room : ℕ) (why : Refusal) → (local_time file instant room).reply ≡ refused why → Listed local_numbers why.number
unfolding local_time_by
local_time_refusals file instant room = of_lent (Listed local_numbers) refl file room (then_reply (zone_numbered file) (λ zone. answers))
