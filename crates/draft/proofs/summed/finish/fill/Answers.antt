-- `draft::summed::finish::fill` meets its contract.
use Rattle.build.proofs.Moving.{over_top, under_top}
use Rattle.draft.proofs.summed.{Finishing.{not_stands, no_yards, space_asked, texts_asked, no_space, not_whole, putting, too_long, fits_whole}}
use Rattle.draft.specs.Held.State.{Lists, Works, lists_as, works_as}
-- the lists as they were lent
use Rattle.numbers.{proofs.Prelude.{ap}, specs.Reply.{refused}}
use Rattle.draft.proofs.summed.finish.fill.Goals as goal

pub returns-then-not-stands : goal.returns-then-not-stands
returns-then-not-stands c =
    let work_of : Works = works_as c.args.starts.now c.args.keys.now c.args.spare.now c.args.kept.now c.args.held.now c.args.words.now c.args.places.now in
    not_stands _ _ work_of _ _ c.stands.ensures c.if-not-stands.true _ _ (ap refused c.alone.ensures)

pub returns-then-builder-eq0 : goal.returns-then-builder-eq0
returns-then-builder-eq0 c =
    let work_of : Works = works_as c.args.starts.now c.args.keys.now c.args.spare.now c.args.kept.now c.args.held.now c.args.words.now c.args.places.now in
    no_yards _ _ work_of _ _ c.stands.ensures c.if-not-stands.false c.if-builder-eq0.true _ _ (ap refused c.alone-then-builder-eq0.ensures)

pub has_space-requires : goal.has_space-requires
has_space-requires c =
    let own_of : Lists = lists_as c.args.own.boxes.now c.args.own.borders.now c.args.own.lengths.now c.args.own.texts.now c.args.own.bytes.now in
    let work_of : Works = works_as c.args.starts.now c.args.keys.now c.args.spare.now c.args.kept.now c.args.held.now c.args.words.now c.args.places.now in
    space_asked c.args.builder own_of work_of 0 _ c.stands.ensures c.if-not-stands.false

pub returns-then-not-has_space : goal.returns-then-not-has_space
returns-then-not-has_space c =
    let work_of : Works = works_as c.args.starts.now c.args.keys.now c.args.spare.now c.args.kept.now c.args.held.now c.args.words.now c.args.places.now in
    no_space _ _ work_of _ _ c.stands.ensures c.if-not-stands.false c.if-builder-eq0.false _ c.has_space.ensures c.if-not-has_space.true _ _
    (ap refused c.alone-then-not-has_space.ensures)

pub are_whole-requires : goal.are_whole-requires
are_whole-requires c =
    let own_of : Lists = lists_as c.args.own.boxes.now c.args.own.borders.now c.args.own.lengths.now c.args.own.texts.now c.args.own.bytes.now in
    let work_of : Works = works_as c.args.starts.now c.args.keys.now c.args.spare.now c.args.kept.now c.args.held.now c.args.words.now c.args.places.now in
    texts_asked c.args.builder own_of work_of 0 _ c.stands.ensures c.if-not-stands.false

pub returns-then-not-are_whole : goal.returns-then-not-are_whole
returns-then-not-are_whole c =
    let work_of : Works = works_as c.args.starts.now c.args.keys.now c.args.spare.now c.args.kept.now c.args.held.now c.args.words.now c.args.places.now in
    not_whole _ _ work_of _ _ c.stands.ensures c.if-not-stands.false c.if-builder-eq0.false _ c.has_space.ensures c.if-not-has_space.false _ c.are_whole.ensures
    c.if-not-are_whole.true _ _ (ap refused c.alone-then-not-are_whole.ensures)

pub put_file-end-requires : goal.put_file-end-requires
put_file-end-requires c =
    let own_of : Lists = lists_as c.args.own.boxes.now c.args.own.borders.now c.args.own.lengths.now c.args.own.texts.now c.args.own.bytes.now in
    let work_of : Works = works_as c.args.starts.now c.args.keys.now c.args.spare.now c.args.kept.now c.args.held.now c.args.words.now c.args.places.now in
    putting c.args.builder own_of work_of 0 _ c.stands.ensures c.if-not-stands.false c.if-builder-eq0.false _ c.has_space.ensures c.if-not-has_space.false _
    c.are_whole.ensures c.if-not-are_whole.false

pub returns-then-up_to-end : goal.returns-then-up_to-end
returns-then-up_to-end c =
    let work_of : Works = works_as c.args.starts.now c.args.keys.now c.args.spare.now c.args.kept.now c.args.held.now c.args.words.now c.args.places.now in
    too_long _ _ work_of _ _ c.stands.ensures c.if-not-stands.false c.if-builder-eq0.false _ c.has_space.ensures c.if-not-has_space.false _ _ c.put_file-end.ensures
    (over_top _ _ _ _ c.up_to.ensures c.out-1.given c.if-up_to-end.true) _ (ap refused c.alone-then-up_to-end.ensures)

pub returns : goal.returns
returns c =
    let work_of : Works = works_as c.args.starts.now c.args.keys.now c.args.spare.now c.args.kept.now c.args.held.now c.args.words.now c.args.places.now in
    fits_whole _ _ work_of _ _ c.stands.ensures c.if-not-stands.false c.if-builder-eq0.false _ c.has_space.ensures c.if-not-has_space.false _ _
    c.put_file-end.ensures (under_top _ _ _ _ c.up_to.ensures c.out-1.given c.if-up_to-end.false)
