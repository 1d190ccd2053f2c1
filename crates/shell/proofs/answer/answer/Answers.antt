-- `shell::answer::answer` meets its contract.
use Rattle.numbers.proofs.Prelude.{ℕ, length, take, length-take-le, refl, sym, arith}
use Rattle.shell.proofs.{Answering.{line_in, answers_as, slip_refused, stood, stood_fits, stood_in, stamped_line}}
use Rattle.shell.specs.Answer.{line_room}
use Rattle.shell.proofs.answer.answer.Goals as goal

pub slice_bounds-slip-end-3 : goal.slice_bounds-slip-end-3
slice_bounds-slip-end-3 c =
    sym (length-take-le {A = ℕ} line_room c.args.out.now (line_in c.requires))

pub returns-in-Err : goal.returns-in-Err
returns-in-Err c =
    let room = length-take-le line_room c.args.out.now (line_in c.requires) in
    answers_as (slip_refused c.args.request.now c.args.map.now c.args.zones.now c.requires.hit_room c.requires.room_for_text room c.in-Err.is c.slip.ensures)
    c.refuse.ensures

pub bounds-out-length : goal.bounds-out-length
bounds-out-length c =
    let st = stood c.args.request.now c.args.map.now c.args.zones.now (length c.args.hits.now) (length c.args.text.now) (length (take line_room c.args.out.now))
    c.in-Ok.is c.slip.ensures in
    stood_in st c.args.out.now c.requires.room_for_line c.slip.auto.out (length-take-le line_room c.args.out.now (line_in c.requires))

pub overflow_add-result : goal.overflow_add-result
overflow_add-result c =
    let room = length-take-le line_room c.args.out.now (line_in c.requires) in
    let st = stood c.args.request.now c.args.map.now c.args.zones.now (length c.args.hits.now) (length c.args.text.now) (length (take line_room c.args.out.now))
    c.in-Ok.is c.slip.ensures in
    omega (arith, stood_fits st c.slip.auto.out, room)

pub returns : goal.returns
returns c =
    let room = length-take-le line_room c.args.out.now (line_in c.requires) in
    let st = stood c.args.request.now c.args.map.now c.args.zones.now (length c.args.hits.now) (length c.args.text.now) (length (take line_room c.args.out.now))
    c.in-Ok.is c.slip.ensures in
    stamped_line c.args.request.now c.args.map.now c.args.zones.now c.args.out.now c.requires.hit_room c.requires.room_for_text room c.slip.auto.hits c.slip.auto.text
    c.requires.room_for_line c.slip.auto.out st refl
