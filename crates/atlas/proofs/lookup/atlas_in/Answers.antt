-- `atlas::lookup::atlas_in` meets its contract, by whether the parts stand.
use Rattle.numbers.proofs.Prelude.{length, refl, sym, ◌∙◌, arith}
use Rattle.atlas.proofs.{Parting.{parts_inside, part_rest, atlas_nowhere, atlas_there}}
use Rattle.atlas.proofs.lookup.atlas_in.Goals as goal

pub returns-in-Err : goal.returns-in-Err
returns-in-Err c =
    atlas_nowhere (length c.args.hits.now) (length c.args.text.now) c.args.file.now c.args.words.now c.args.location c.args.asked c.args.head (sym c.in-Err.is ∙ c.parts_of.ensures) c.zero_both.ensures.0 c.zero_both.ensures.1

pub slice_bounds-lookup_marked-count : goal.slice_bounds-lookup_marked-count
slice_bounds-lookup_marked-count c =
    let stands = sym c.in-Ok.is ∙ c.parts_of.ensures in
    let inside = parts_inside (length c.args.file.now) c.args.head c.args.words.now c.args.location stands in
    omega (arith, inside.records, inside.behind, inside.list, inside.end, inside.beside)

pub slice_bounds-lookup_marked-start : goal.slice_bounds-lookup_marked-start
slice_bounds-lookup_marked-start c =
    let stands = sym c.in-Ok.is ∙ c.parts_of.ensures in
    let inside = parts_inside (length c.args.file.now) c.args.head c.args.words.now c.args.location stands in
    omega (arith, inside.records, inside.behind, inside.list, inside.end, inside.beside)

pub slice_bounds-lookup_marked-end : goal.slice_bounds-lookup_marked-end
slice_bounds-lookup_marked-end c =
    let stands = sym c.in-Ok.is ∙ c.parts_of.ensures in
    let inside = parts_inside (length c.args.file.now) c.args.head c.args.words.now c.args.location stands in
    omega (arith, inside.records, inside.behind, inside.list, inside.end, inside.beside)

pub offset_bounds-words-parts : goal.offset_bounds-words-parts
offset_bounds-words-parts c =
    let stands = sym c.in-Ok.is ∙ c.parts_of.ensures in
    let inside = parts_inside (length c.args.file.now) c.args.head c.args.words.now c.args.location stands in
    omega (arith, inside.records, inside.behind, inside.list, inside.end, inside.beside)

pub slice_bounds-lookup_marked-count-2 : goal.slice_bounds-lookup_marked-count-2
slice_bounds-lookup_marked-count-2 c =
    let stands = sym c.in-Ok.is ∙ c.parts_of.ensures in
    let inside = parts_inside (length c.args.file.now) c.args.head c.args.words.now c.args.location stands in
    omega (arith, inside.records, inside.behind, inside.list, inside.end, inside.beside)

pub slice_bounds-lookup_marked-start-2 : goal.slice_bounds-lookup_marked-start-2
slice_bounds-lookup_marked-start-2 c =
    let stands = sym c.in-Ok.is ∙ c.parts_of.ensures in
    let inside = parts_inside (length c.args.file.now) c.args.head c.args.words.now c.args.location stands in
    omega (arith, inside.records, inside.behind, inside.list, inside.end, inside.beside)

pub slice_bounds-lookup_marked-end-2 : goal.slice_bounds-lookup_marked-end-2
slice_bounds-lookup_marked-end-2 c =
    let stands = sym c.in-Ok.is ∙ c.parts_of.ensures in
    let inside = parts_inside (length c.args.file.now) c.args.head c.args.words.now c.args.location stands in
    omega (arith, inside.records, inside.behind, inside.list, inside.end, inside.beside)

pub offset_bounds-words-parts-2 : goal.offset_bounds-words-parts-2
offset_bounds-words-parts-2 c =
    let stands = sym c.in-Ok.is ∙ c.parts_of.ensures in
    let inside = parts_inside (length c.args.file.now) c.args.head c.args.words.now c.args.location stands in
    omega (arith, inside.records, inside.behind, inside.list, inside.end, inside.beside)

pub slice_bounds-lookup_marked-count-3 : goal.slice_bounds-lookup_marked-count-3
slice_bounds-lookup_marked-count-3 c =
    let stands = sym c.in-Ok.is ∙ c.parts_of.ensures in
    let inside = parts_inside (length c.args.file.now) c.args.head c.args.words.now c.args.location stands in
    omega (arith, inside.records, inside.behind, inside.list, inside.end, inside.beside)

pub slice_bounds-lookup_marked-start-3 : goal.slice_bounds-lookup_marked-start-3
slice_bounds-lookup_marked-start-3 c =
    let stands = sym c.in-Ok.is ∙ c.parts_of.ensures in
    let inside = parts_inside (length c.args.file.now) c.args.head c.args.words.now c.args.location stands in
    omega (arith, inside.records, inside.behind, inside.list, inside.end, inside.beside)

pub returns : goal.returns
returns c =
    let stands = sym c.in-Ok.is ∙ c.parts_of.ensures in
    c.lookup_marked.ensures ∙ atlas_there (length c.args.hits.now) (length c.args.text.now) c.args.file.now c.args.words.now c.args.location c.args.asked
    c.args.head stands refl refl (part_rest c.args.words.now _)
