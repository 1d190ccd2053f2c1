-- `notes::weighed::weigh::weigh_value` meets its contract.
use Rattle.numbers.proofs.{Prelude.{ℕ, ◌+◌, ◌≡◌, Bool, true, ap, arith}, Spelling.{varint_few}}
use Rattle.notes.specs.Chains.Chains.{word_of}
use Rattle.notes.proofs.weighed.{Valued.{size_at, not_sure, is_empty, is_new, is_far}}
use Rattle.std.specs.{Option.{is_some}, Prelude.{Option, Some, None}}
use Rattle.notes.proofs.weighed.weigh.weigh_value.Goals as goal

-- what is found is one more than a place
was_found : (found : Option ℕ) → is_some found ≡ true → word_of found ≡ 0 → ⊥
was_found None s z = cc
was_found (Some place) s z = omega (arith, z)

pub returns-then-end-begin : goal.returns-then-end-begin
returns-then-end-begin c =
    not_sure _ _ _ _ _ _

pub returns-then-size-eq0 : goal.returns-then-size-eq0
returns-then-size-eq0 c =
    is_empty _ _ _ _ _ _ c.if-size-eq0.true

pub returns-then-is_repeated : goal.returns-then-is_repeated
returns-then-is_repeated c =
    not_sure _ _ _ _ _ _

pub overflow_add-bytes : goal.overflow_add-bytes
overflow_add-bytes c =
    omega (arith, c.size_of_varint.ensures, varint_few (size_at c.args.texts.starts.now c.args.value))

pub returns-in_default : goal.returns-in_default
returns-in_default c =
    is_new _ _ _ _ _ _ c.requires.3 _ c.find.ensures.1 (ap word_of c.in_default.is) _ c.is_repeated.ensures c.if-is_repeated.false (omega arith) _ (ap (λ (n : ℕ). n + size_at c.args.texts.starts.now c.args.value) c.size_of_varint.ensures)

pub returns-then-is_none : goal.returns-then-is_none
returns-then-is_none c =
    not_sure _ _ _ _ _ _

pub returns : goal.returns
returns c =
    is_far _ _ _ _ _ _ c.requires.3 _ c.find.ensures.1 c.requires.0 c.if-size-eq0.false _ (ap word_of c.in-Some.is) _ c.find_before.ensures.1
    (λ z. was_found _ c.if-is_none.ensures z)
