-- `header::opening::write_texts` meets its contract.
use Rattle.numbers.{proofs.Prelude.{◌+◌, ◌≡◌, w64, arith}, specs.Reply.{given}}
use mir.Val.{Fits}
use Rattle.header.proofs.{Buffers.{lent_length}, Strings.{Lies, part_length}, opening.{Writing.{starts, bad, lies, full, goes, ends}}}
use Rattle.header.specs.{Header.{blame_of}, Text.{text_at}}
use Rattle.header.proofs.opening.write_texts.Goals as goal

pub returns-in_default : goal.returns-in_default
returns-in_default c =
    bad c.loop-index.invariant (omega (arith, c.loop-index-test.true)) _ (rw c.in_default.is at c.read_header_text.ensures)

pub overflow_add-size : goal.overflow_add-size
overflow_add-size c =
    let read : given c.in-Ok.string ≡ text_at c.args.strict c.args.file.now 0 c.loop-index.place (blame_of c.args.names c.loop-index.index) = rw c.in-Ok.is at
    c.read_header_text.ensures in
    let lying : Lies c.args.file.now c.in-Ok.string = lies c.loop-index.invariant (omega (arith, c.loop-index-test.true)) _ read in
    let size_fits : Fits w64 (c.in-Ok.string.size + 2) = omega (arith, (lying).short) in
    size_fits

pub returns-then-text-at : goal.returns-then-text-at
returns-then-text-at c =
    let read : given c.in-Ok.string ≡ text_at c.args.strict c.args.file.now 0 c.loop-index.place (blame_of c.args.names c.loop-index.index) = rw c.in-Ok.is at
    c.read_header_text.ensures in
    full c.loop-index.invariant (omega (arith, c.loop-index-test.true)) _ read _ c.if-text-at.true

pub overflow_add-start : goal.overflow_add-start
overflow_add-start c =
    let read : given c.in-Ok.string ≡ text_at c.args.strict c.args.file.now 0 c.loop-index.place (blame_of c.args.names c.loop-index.index) = rw c.in-Ok.is at
    c.read_header_text.ensures in
    let lying : Lies c.args.file.now c.in-Ok.string = lies c.loop-index.invariant (omega (arith, c.loop-index-test.true)) _ read in
    let end_fits : let string = c.in-Ok.string in Fits w64 (string.start + string.size) = omega (arith, (lying).inside) in
    end_fits

pub slice_bounds-put_entry-end-in-loop-index : goal.slice_bounds-put_entry-end-in-loop-index
slice_bounds-put_entry-end-in-loop-index c =
    let read : given c.in-Ok.string ≡ text_at c.args.strict c.args.file.now 0 c.loop-index.place (blame_of c.args.names c.loop-index.index) = rw c.in-Ok.is at
    c.read_header_text.ensures in
    let lying : Lies c.args.file.now c.in-Ok.string = lies c.loop-index.invariant (omega (arith, c.loop-index-test.true)) _ read in
    omega (arith, lying.inside)

pub put_entry-requires : goal.put_entry-requires
put_entry-requires c =
    let read : given c.in-Ok.string ≡ text_at c.args.strict c.args.file.now 0 c.loop-index.place (blame_of c.args.names c.loop-index.index) = rw c.in-Ok.is at
    c.read_header_text.ensures in
    let lying : Lies c.args.file.now c.in-Ok.string = lies c.loop-index.invariant (omega (arith, c.loop-index-test.true)) _ read in
    let l = lying in
    let p = part_length _ _ l in
    (omega (arith, p, lent_length c.loop-index.at c.loop-index.text, c.if-text-at.false), omega (arith, p, l.short))

pub loop-index-preserved : goal.loop-index-preserved
loop-index-preserved c =
    let read : given c.in-Ok.string ≡ text_at c.args.strict c.args.file.now 0 c.loop-index.place (blame_of c.args.names c.loop-index.index) = rw c.in-Ok.is at
    c.read_header_text.ensures in
    goes c.loop-index.invariant (omega (arith, c.loop-index-test.true)) _ read _ c.if-text-at.false c.put_entry.ensures

pub returns : goal.returns
returns c =
    ends c.loop-index.invariant (omega (arith, c.loop-index-test.false))
