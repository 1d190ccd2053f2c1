-- `atlas::search::find_atlas` meets its contract, by whether the parts stand.
use Rattle.numbers.{proofs.{Prelude.{length, ◌≡◌, refl, sym, ◌∙◌, arith}, Replies.{passed_on}}, specs.Reply.{given}}
use Rattle.atlas.specs.Looked.{parts_of}
use Rattle.atlas.proofs.{Choosing.{find_nowhere, find_there}, Parting.{Inside, parts_inside, part_rest}}
-- the parts that stand
use Rattle.atlas.proofs.search.find_atlas.Goals as goal

pub returns-in_err-parts : goal.returns-in_err-parts
returns-in_err-parts c =
    rw (passed_on _ c.from_residual.ensures.1) (find_nowhere c.args.file.now c.args.head c.args.words.now c.args.location c.args.asked (length c.args.hits.now) _ (sym c.in_err-parts.was
    ∙ c.parts_of.ensures))

pub slice_bounds-find_marked-count : goal.slice_bounds-find_marked-count
slice_bounds-find_marked-count c =
    let stands : given c.in_ok-parts.parts ≡ parts_of (length c.args.file.now) c.args.head c.args.words.now c.args.location = sym c.in_ok-parts.was
    ∙ c.parts_of.ensures in
    let inside : Inside (length c.args.file.now) c.args.head c.args.words.now c.args.location c.in_ok-parts.parts = parts_inside _ _ _ _ stands in
    let i = inside in
    omega (arith, i.records, i.behind, i.list, i.end, i.beside)

pub slice_bounds-find_marked-start : goal.slice_bounds-find_marked-start
slice_bounds-find_marked-start c =
    let stands : given c.in_ok-parts.parts ≡ parts_of (length c.args.file.now) c.args.head c.args.words.now c.args.location = sym c.in_ok-parts.was
    ∙ c.parts_of.ensures in
    let inside : Inside (length c.args.file.now) c.args.head c.args.words.now c.args.location c.in_ok-parts.parts = parts_inside _ _ _ _ stands in
    let i = inside in
    omega (arith, i.records, i.behind, i.list, i.end, i.beside)

pub slice_bounds-find_marked-end : goal.slice_bounds-find_marked-end
slice_bounds-find_marked-end c =
    let stands : given c.in_ok-parts.parts ≡ parts_of (length c.args.file.now) c.args.head c.args.words.now c.args.location = sym c.in_ok-parts.was
    ∙ c.parts_of.ensures in
    let inside : Inside (length c.args.file.now) c.args.head c.args.words.now c.args.location c.in_ok-parts.parts = parts_inside _ _ _ _ stands in
    let i = inside in
    omega (arith, i.records, i.behind, i.list, i.end, i.beside)

pub offset_bounds-words-parts : goal.offset_bounds-words-parts
offset_bounds-words-parts c =
    let stands : given c.in_ok-parts.parts ≡ parts_of (length c.args.file.now) c.args.head c.args.words.now c.args.location = sym c.in_ok-parts.was
    ∙ c.parts_of.ensures in
    let inside : Inside (length c.args.file.now) c.args.head c.args.words.now c.args.location c.in_ok-parts.parts = parts_inside _ _ _ _ stands in
    let i = inside in
    omega (arith, i.records, i.behind, i.list, i.end, i.beside)

pub slice_bounds-find_marked-count-2 : goal.slice_bounds-find_marked-count-2
slice_bounds-find_marked-count-2 c =
    let stands : given c.in_ok-parts.parts ≡ parts_of (length c.args.file.now) c.args.head c.args.words.now c.args.location = sym c.in_ok-parts.was
    ∙ c.parts_of.ensures in
    let inside : Inside (length c.args.file.now) c.args.head c.args.words.now c.args.location c.in_ok-parts.parts = parts_inside _ _ _ _ stands in
    let i = inside in
    omega (arith, i.records, i.behind, i.list, i.end, i.beside)

pub slice_bounds-find_marked-start-2 : goal.slice_bounds-find_marked-start-2
slice_bounds-find_marked-start-2 c =
    let stands : given c.in_ok-parts.parts ≡ parts_of (length c.args.file.now) c.args.head c.args.words.now c.args.location = sym c.in_ok-parts.was
    ∙ c.parts_of.ensures in
    let inside : Inside (length c.args.file.now) c.args.head c.args.words.now c.args.location c.in_ok-parts.parts = parts_inside _ _ _ _ stands in
    let i = inside in
    omega (arith, i.records, i.behind, i.list, i.end, i.beside)

pub slice_bounds-find_marked-end-2 : goal.slice_bounds-find_marked-end-2
slice_bounds-find_marked-end-2 c =
    let stands : given c.in_ok-parts.parts ≡ parts_of (length c.args.file.now) c.args.head c.args.words.now c.args.location = sym c.in_ok-parts.was
    ∙ c.parts_of.ensures in
    let inside : Inside (length c.args.file.now) c.args.head c.args.words.now c.args.location c.in_ok-parts.parts = parts_inside _ _ _ _ stands in
    let i = inside in
    omega (arith, i.records, i.behind, i.list, i.end, i.beside)

pub offset_bounds-words-parts-2 : goal.offset_bounds-words-parts-2
offset_bounds-words-parts-2 c =
    let stands : given c.in_ok-parts.parts ≡ parts_of (length c.args.file.now) c.args.head c.args.words.now c.args.location = sym c.in_ok-parts.was
    ∙ c.parts_of.ensures in
    let inside : Inside (length c.args.file.now) c.args.head c.args.words.now c.args.location c.in_ok-parts.parts = parts_inside _ _ _ _ stands in
    let i = inside in
    omega (arith, i.records, i.behind, i.list, i.end, i.beside)

pub slice_bounds-find_marked-count-3 : goal.slice_bounds-find_marked-count-3
slice_bounds-find_marked-count-3 c =
    let stands : given c.in_ok-parts.parts ≡ parts_of (length c.args.file.now) c.args.head c.args.words.now c.args.location = sym c.in_ok-parts.was
    ∙ c.parts_of.ensures in
    let inside : Inside (length c.args.file.now) c.args.head c.args.words.now c.args.location c.in_ok-parts.parts = parts_inside _ _ _ _ stands in
    let i = inside in
    omega (arith, i.records, i.behind, i.list, i.end, i.beside)

pub slice_bounds-find_marked-start-3 : goal.slice_bounds-find_marked-start-3
slice_bounds-find_marked-start-3 c =
    let stands : given c.in_ok-parts.parts ≡ parts_of (length c.args.file.now) c.args.head c.args.words.now c.args.location = sym c.in_ok-parts.was
    ∙ c.parts_of.ensures in
    let inside : Inside (length c.args.file.now) c.args.head c.args.words.now c.args.location c.in_ok-parts.parts = parts_inside _ _ _ _ stands in
    let i = inside in
    omega (arith, i.records, i.behind, i.list, i.end, i.beside)

pub returns : goal.returns
returns c =
    let stands : given c.in_ok-parts.parts ≡ parts_of (length c.args.file.now) c.args.head c.args.words.now c.args.location = sym c.in_ok-parts.was
    ∙ c.parts_of.ensures in
    find_there c.args.file.now c.args.head c.args.words.now c.args.location c.args.asked (length c.args.hits.now) _ stands _ _ _ refl refl (part_rest
    c.args.words.now _) c.find_marked.result c.find_marked.ensures
