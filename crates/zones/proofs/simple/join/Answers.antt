-- `zones::simple::join` meets its contract: one string over the front of zeros, the other after it.
use Rattle.numbers.proofs.Prelude.{◌+◌, ◌-◌, ◌≤◌, length, take, drop, ◌++◌, w64, arith}
use Rattle.std.proofs.Common.{Fits}
use Rattle.zones.proofs.{Holding.{Held, held_length}, simple.{Joining.{no_room, one_held, rest_holds, two_held, all_fits}}}
use Rattle.header.specs.Text.{bytes_of}
use Rattle.zones.proofs.simple.join.Goals as goal

pub returns-then-text-size : goal.returns-then-text-size
returns-then-text-size c =
    rw c.alone.ensures (no_room _ _ _ _ _ c.requires.1 c.requires.2 (omega (arith, c.if-text-size.true)))

pub returns-then-text-size-2 : goal.returns-then-text-size-2
returns-then-text-size-2 c =
    rw c.alone-then-text-size-2.ensures (no_room _ _ _ _ _ c.requires.1 c.requires.2 (omega (arith, c.if-text-size.false, c.if-text-size-2.true)))

pub unmask-requires-2 : goal.unmask-requires-2
unmask-requires-2 c =
    let one : Held (length c.args.text.now) (bytes_of c.args.file.now c.args.one) c.unmask.new.text c.args.one.size = one_held _ _ c.requires.1 c.if-text-size.false
    c.requires.0 c.unmask.ensures in
    let fits : c.args.one.size + c.args.two.size ≤ length c.args.text.now = omega arith in
    rest_holds one _ c.args.two c.requires.2 fits

pub overflow_add-result : goal.overflow_add-result
overflow_add-result c =
    let sum_fits : Fits w64 (c.args.one.size + c.args.two.size) = omega arith in
    sum_fits

pub shape_of-text : goal.shape_of-text
shape_of-text c =
    let one : Held (length c.args.text.now) (bytes_of c.args.file.now c.args.one) c.unmask.new.text c.args.one.size = one_held _ _ c.requires.1 c.if-text-size.false
    c.requires.0 c.unmask.ensures in
    let fits : c.args.one.size + c.args.two.size ≤ length c.args.text.now = omega arith in
    let both : let text = c.unmask.new.text in Held (length c.args.text.now) (bytes_of c.args.file.now c.args.one ++ bytes_of c.args.file.now c.args.two) (take
    c.args.one.size text ++ (c.unmask-2.new.text ++ drop (length text - c.args.one.size) (drop c.args.one.size text))) (c.args.one.size + c.args.two.size) =
    two_held one _ _ c.requires.2 fits c.unmask-2.ensures in
    held_length both

pub returns : goal.returns
returns c =
    let one : Held (length c.args.text.now) (bytes_of c.args.file.now c.args.one) c.unmask.new.text c.args.one.size = one_held _ _ c.requires.1 c.if-text-size.false
    c.requires.0 c.unmask.ensures in
    let fits : c.args.one.size + c.args.two.size ≤ length c.args.text.now = omega arith in
    let both : let text = c.unmask.new.text in Held (length c.args.text.now) (bytes_of c.args.file.now c.args.one ++ bytes_of c.args.file.now c.args.two) (take
    c.args.one.size text ++ (c.unmask-2.new.text ++ drop (length text - c.args.one.size) (drop c.args.one.size text))) (c.args.one.size + c.args.two.size) =
    two_held one _ _ c.requires.2 fits c.unmask-2.ensures in
    all_fits both
