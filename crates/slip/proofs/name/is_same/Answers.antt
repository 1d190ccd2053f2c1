-- `slip::name::is_same` meets its contract.
use Rattle.numbers.proofs.Prelude.{length, ◌≡◌, sym, ◌∙◌, arith}
use Rattle.zones.{proofs.simple.Names.{lengths_differ, all_same, differs, goes_on}}
use Rattle.slip.specs.Told.{name_in}
use Rattle.slip.proofs.name.is_same.Goals as goal

pub returns-then-size-size_of : goal.returns-then-size-size_of
returns-then-size-size_of c =
    sym (lengths_differ _ _ (λ e. c.if-size-size_of.true (c.size_of-size.ensures ∙ e ∙ sym c.size_of.ensures)))

pub returns-then-byte_of : goal.returns-then-byte_of
returns-then-byte_of c =
    let lengths : length (name_in c.args.map.now c.args.name) ≡ length (name_in c.args.map.now c.args.other) = sym c.size_of-size.ensures ∙ c.if-size-size_of.false
    ∙ c.size_of.ensures in
    differs (name_in c.args.map.now c.args.name) (name_in c.args.map.now c.args.other) lengths c.loop-i.i c.loop-i.invariant (omega (
      arith,
      c.loop-i-test.true,
      c.size_of-size.ensures,
    )) (λ e. c.if-byte_of.true (c.byte_of.ensures ∙ e ∙ sym c.byte_of-in-loop-i.ensures))

pub loop-i-preserved : goal.loop-i-preserved
loop-i-preserved c =
    let lengths : length (name_in c.args.map.now c.args.name) ≡ length (name_in c.args.map.now c.args.other) = sym c.size_of-size.ensures ∙ c.if-size-size_of.false
    ∙ c.size_of.ensures in
    goes_on (name_in c.args.map.now c.args.name) (name_in c.args.map.now c.args.other) lengths c.loop-i.i c.loop-i.invariant (omega (
      arith,
      c.loop-i-test.true,
      c.size_of-size.ensures,
    )) (sym c.byte_of.ensures ∙ c.if-byte_of.false ∙ c.byte_of-in-loop-i.ensures)

pub returns : goal.returns
returns c =
    let lengths : length (name_in c.args.map.now c.args.name) ≡ length (name_in c.args.map.now c.args.other) = sym c.size_of-size.ensures ∙ c.if-size-size_of.false
    ∙ c.size_of.ensures in
    all_same (name_in c.args.map.now c.args.name) (name_in c.args.map.now c.args.other) lengths c.loop-i.i c.loop-i.invariant (omega (
      arith,
      c.loop-i-test.false,
      c.size_of-size.ensures,
    ))
