-- `slip::hour::hour_in` meets its contract.
use Rattle.numbers.{proofs.{Prelude.{◌+◌, ◌-◌, ◌≤◌, rules, length, take, drop, length-drop, length-take-le, List, ◌≡◌, sym, ap, ◌∙◌, w32, to_z-of_z, arith}, Replies.{held}}, specs.Reply.{given}}
use Rattle.bundle.specs.Bundle.{find_of}
use Rattle.slip.proofs.{Locals.{as_passed, Hour-by, not_found, file_inside, no_local, no_clock, the_hour}, Parts.{part_slice, parts_name}}
use Rattle.slip.specs.{Hour.{local_in}, Told.{name_in}}
use Rattle.tzif.specs.{Local.{Held}, Text.{slice}}
use Rattle.slip.proofs.hour.hour_in.Goals as goal

pub returns-in_err-file : goal.returns-in_err-file
returns-in_err-file c =
    as_passed (Hour-by _ _ _ _ c.requires) _ c.from_residual.ensures.1 (not_found _ _ _ _ c.requires (sym c.in_err-file.was ∙ c.find.ensures ∙ ap (find_of c.args.zones.now)
    (parts_name c.args.map.now c.args.name)))

pub overflow_add-end : goal.overflow_add-end
overflow_add-end c =
    let found_in : given c.in_ok-file.file ≡ find_of c.args.zones.now (name_in c.args.map.now c.args.name) = sym c.in_ok-file.was ∙ c.find.ensures
    ∙ ap (find_of c.args.zones.now) (parts_name c.args.map.now c.args.name) in
    let inside : c.in_ok-file.file.start + c.in_ok-file.file.length ≤ length c.args.zones.now = file_inside c.args.map.now c.args.zones.now c.args.fix.instant c.args.name
    c.requires found_in in
    omega (arith, inside, c.well_formed.1.0.0)

pub slice_bounds-local_in-end : goal.slice_bounds-local_in-end
slice_bounds-local_in-end c =
    let found_in : given c.in_ok-file.file ≡ find_of c.args.zones.now (name_in c.args.map.now c.args.name) = sym c.in_ok-file.was ∙ c.find.ensures
    ∙ ap (find_of c.args.zones.now) (parts_name c.args.map.now c.args.name) in
    let inside : c.in_ok-file.file.start + c.in_ok-file.file.length ≤ length c.args.zones.now = file_inside c.args.map.now c.args.zones.now c.args.fix.instant c.args.name
    c.requires found_in in
    let h = inside in
    search rules

pub returns-in_err-found : goal.returns-in_err-found
returns-in_err-found c =
    let found_in : given c.in_ok-file.file ≡ find_of c.args.zones.now (name_in c.args.map.now c.args.name) = sym c.in_ok-file.was ∙ c.find.ensures
    ∙ ap (find_of c.args.zones.now) (parts_name c.args.map.now c.args.name) in
    let says : let file = c.in_ok-file.file in c.local_in.result ≡ local_in (slice c.args.zones.now file.start file.length) c.args.fix.instant = let file
    = c.in_ok-file.file in c.local_in.ensures.0 ∙ ap (λ (own : List _). local_in own c.args.fix.instant) (part_slice c.args.zones.now file.start file.length) in
    as_passed (Hour-by _ _ _ _ c.requires) _ c.from_residual-in_err-found.ensures.1 (no_local _ _ _ _ c.requires found_in (sym c.in_err-found.was ∙ says))

pub returns-in_err-reading : goal.returns-in_err-reading
returns-in_err-reading c =
    let found_in : given c.in_ok-file.file ≡ find_of c.args.zones.now (name_in c.args.map.now c.args.name) = sym c.in_ok-file.was ∙ c.find.ensures
    ∙ ap (find_of c.args.zones.now) (parts_name c.args.map.now c.args.name) in
    let says : let file = c.in_ok-file.file in c.local_in.result ≡ local_in (slice c.args.zones.now file.start file.length) c.args.fix.instant = let file
    = c.in_ok-file.file in c.local_in.ensures.0 ∙ ap (λ (own : List _). local_in own c.args.fix.instant) (part_slice c.args.zones.now file.start file.length) in
    as_passed (Hour-by _ _ _ _ c.requires) _ c.from_residual-in_err-reading.ensures.1 (no_clock _ _ _ _ c.requires found_in (sym c.in_ok-found.was ∙ says)
    (sym c.in_err-reading.was ∙ c.clock_of.ensures))

pub overflow_add-result : goal.overflow_add-result
overflow_add-result c =
    let found_in : given c.in_ok-file.file ≡ find_of c.args.zones.now (name_in c.args.map.now c.args.name) = sym c.in_ok-file.was ∙ c.find.ensures
    ∙ ap (find_of c.args.zones.now) (parts_name c.args.map.now c.args.name) in
    let inside : c.in_ok-file.file.start + c.in_ok-file.file.length ≤ length c.args.zones.now = file_inside c.args.map.now c.args.zones.now c.args.fix.instant c.args.name
    c.requires found_in in
    let fits : let file = c.in_ok-file.file in c.in_ok-found.found.place + c.in_ok-found.found.length ≤ file.length = let file = c.in_ok-file.file in
    let whole = held (Held (length (take (file.start + file.length - file.start) (drop file.start c.args.zones.now)))) c.in_ok-found.was
    c.local_in.ensures.1 in let size = ap length (part_slice c.args.zones.now file.start file.length)
    ∙ length-take-le file.length (drop file.start c.args.zones.now) (rw length-drop (omega (arith, inside))) in omega (arith, whole.held, size) in
    omega (arith, inside, fits, c.well_formed.1.0.0)

pub returns : goal.returns
returns c =
    let found_in : given c.in_ok-file.file ≡ find_of c.args.zones.now (name_in c.args.map.now c.args.name) = sym c.in_ok-file.was ∙ c.find.ensures
    ∙ ap (find_of c.args.zones.now) (parts_name c.args.map.now c.args.name) in
    let says : let file = c.in_ok-file.file in c.local_in.result ≡ local_in (slice c.args.zones.now file.start file.length) c.args.fix.instant = let file
    = c.in_ok-file.file in c.local_in.ensures.0 ∙ ap (λ (own : List _). local_in own c.args.fix.instant) (part_slice c.args.zones.now file.start file.length) in
    let inside : c.in_ok-file.file.start + c.in_ok-file.file.length ≤ length c.args.zones.now = file_inside c.args.map.now c.args.zones.now c.args.fix.instant c.args.name
    c.requires found_in in
    let fits : let file = c.in_ok-file.file in c.in_ok-found.found.place + c.in_ok-found.found.length ≤ file.length = let file = c.in_ok-file.file in
    let whole = held (Held (length (take (file.start + file.length - file.start) (drop file.start c.args.zones.now)))) c.in_ok-found.was
    c.local_in.ensures.1 in let size = ap length (part_slice c.args.zones.now file.start file.length)
    ∙ length-take-le file.length (drop file.start c.args.zones.now) (rw length-drop (omega (arith, inside))) in omega (arith, whole.held, size) in
    the_hour _ _ _ _ c.requires found_in (sym c.in_ok-found.was ∙ says) (sym c.in_ok-reading.was ∙ c.clock_of.ensures) fits
    (to_z-of_z w32 _ (let told = c.struct_told-1.given in search rules))
