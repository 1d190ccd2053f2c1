-- `tzrule::cursor::Cursor::eat` meets its contract.
use Rattle.numbers.proofs.Prelude.{refl, sym, ◌∙◌, arith}
use Rattle.tzrule.proofs.{Times.{byte_inside}}
use Rattle.tzrule.specs.{inner.Reads.{Eaten}}
use Rattle.tzrule.proofs.cursor.Cursor.eat.Goals as goal

pub returns-then-byte_at-byte : goal.returns-then-byte_at-byte
unfolding Eaten
returns-then-byte_at-byte c =
    λ e. c.if-byte_at-byte.true (c.byte_at.ensures ∙ e)

pub invariant_of-result : goal.invariant_of-result
invariant_of-result c =
    record {
      short = c.args.self.short;
      inside = byte_inside _ _ (omega (arith, c.requires, c.byte_at.ensures, c.if-byte_at-byte.false));
    }

pub returns : goal.returns
unfolding Eaten
returns c =
    record { stands = sym c.byte_at.ensures ∙ c.if-byte_at-byte.false; text = refl; at = refl }
