-- `add::adding::add::add_kept` meets its contract.
use Rattle.numbers.proofs.Prelude.{length-take-le, true, ◌≡◌, refl, sym, arith}
use Rattle.add.specs.{Adding.Adds.{note_rooms}, Growing.Notes.{Notes, notes_as}, Joining.Joins.{untouched}, declared.adding.room.NoteRooms.{NoteRooms}}
use Rattle.draft.{proofs.held.Stood.{stood as stood-is}, specs.{Held.{Space.{standing}, State.{Lists, lists_as, rooms_of, works_as}}, declared.held.room.Rooms.{Rooms}}}
use Rattle.add.proofs.adding.Adding.{as_refused, stands_not_adds, stood, refused_adds, full_adds, joined_adds}
use Rattle.add.proofs.adding.{Asking.{sum_small, few_here, strings_in, sum_in, size_in, strings_are, placed_here, measuring_here}}
-- what is lent, as the definitions have it
use Rattle.add.proofs.adding.add.add_kept.Goals as goal

pub returns-then-not-stands : goal.returns-then-not-stands
returns-then-not-stands c =
    let lists_of : Lists = lists_as c.args.boxes.now c.args.borders.now c.args.lengths.now c.args.texts.now c.args.bytes.now in
    let rooms_here : Rooms = rooms_of lists_of (works_as c.args.starts.now c.args.keys.now c.args.spare.now c.args.kept.now c.args.held.now c.args.words.now
    c.args.places.now) in
    let notes_of : Notes = notes_as c.args.marks.now c.args.chains.now c.args.groups.now c.args.begins.now in
    let lent_of : NoteRooms = note_rooms notes_of in (
      stands_not_adds c.args.builder c.args.noted c.args.offer.lats.now c.args.offer.lons.now c.args.offer.pieces.now c.args.offer.sizes.now c.args.offer.values.now rooms_here lent_of
          c.args.wide lists_of notes_of refl refl refl refl refl c.stands.result c.stands.ensures c.if-not-stands.true _ (as_refused _ _ _ c.alone.ensures),
      untouched refl,
    )

pub take_offer-offered-requires : goal.take_offer-offered-requires
take_offer-offered-requires c =
    let lists_of : Lists = lists_as c.args.boxes.now c.args.borders.now c.args.lengths.now c.args.texts.now c.args.bytes.now in
    let rooms_here : Rooms = rooms_of lists_of (works_as c.args.starts.now c.args.keys.now c.args.spare.now c.args.kept.now c.args.held.now c.args.words.now
    c.args.places.now) in
    let notes_of : Notes = notes_as c.args.marks.now c.args.chains.now c.args.groups.now c.args.begins.now in
    let lent_of : NoteRooms = note_rooms notes_of in
    let stands_here : standing c.args.builder rooms_here ≡ true = stood c.args.builder c.args.noted c.args.offer.lats.now c.args.offer.lons.now c.args.offer.pieces.now
    c.args.offer.sizes.now c.args.offer.values.now rooms_here lent_of c.args.wide lists_of notes_of refl c.stands.result c.stands.ensures c.if-not-stands.false in
    ((stood-is c.args.builder rooms_here stands_here).bytes_room, c.requires)

pub returns-in-Err : goal.returns-in-Err
returns-in-Err c =
    let lists_of : Lists = lists_as c.args.boxes.now c.args.borders.now c.args.lengths.now c.args.texts.now c.args.bytes.now in
    let rooms_here : Rooms = rooms_of lists_of (works_as c.args.starts.now c.args.keys.now c.args.spare.now c.args.kept.now c.args.held.now c.args.words.now
    c.args.places.now) in
    let notes_of : Notes = notes_as c.args.marks.now c.args.chains.now c.args.groups.now c.args.begins.now in
    let lent_of : NoteRooms = note_rooms notes_of in (
      refused_adds c.args.builder c.args.noted c.args.offer.lats.now c.args.offer.lons.now c.args.offer.pieces.now c.args.offer.sizes.now c.args.offer.values.now rooms_here lent_of c.args.wide
          lists_of notes_of refl c.stands.result c.stands.ensures c.if-not-stands.false _ c.take_offer-offered.result c.take_offer-offered.ensures _ c.in-Err.is _ refl,
      untouched refl,
    )

pub sum_of-sum-requires : goal.sum_of-sum-requires
sum_of-sum-requires c =
    let lists_of : Lists = lists_as c.args.boxes.now c.args.borders.now c.args.lengths.now c.args.texts.now c.args.bytes.now in
    let rooms_here : Rooms = rooms_of lists_of (works_as c.args.starts.now c.args.keys.now c.args.spare.now c.args.kept.now c.args.held.now c.args.words.now
    c.args.places.now) in
    let notes_of : Notes = notes_as c.args.marks.now c.args.chains.now c.args.groups.now c.args.begins.now in
    let lent_of : NoteRooms = note_rooms notes_of in
    let stands_here : standing c.args.builder rooms_here ≡ true = stood c.args.builder c.args.noted c.args.offer.lats.now c.args.offer.lons.now c.args.offer.pieces.now
    c.args.offer.sizes.now c.args.offer.values.now rooms_here lent_of c.args.wide lists_of notes_of refl c.stands.result c.stands.ensures c.if-not-stands.false in
    sum_small c.args.builder c.args.offer.lats.now c.args.offer.lons.now c.args.offer.pieces.now c.args.offer.sizes.now c.args.offer.values.now rooms_here c.args.bytes.now c.args.wide refl
    stands_here _ c.take_offer-offered.result c.take_offer-offered.ensures _ c.in-Ok.is

pub has_place-requires : goal.has_place-requires
has_place-requires c =
    let lists_of : Lists = lists_as c.args.boxes.now c.args.borders.now c.args.lengths.now c.args.texts.now c.args.bytes.now in
    let rooms_here : Rooms = rooms_of lists_of (works_as c.args.starts.now c.args.keys.now c.args.spare.now c.args.kept.now c.args.held.now c.args.words.now
    c.args.places.now) in
    let notes_of : Notes = notes_as c.args.marks.now c.args.chains.now c.args.groups.now c.args.begins.now in
    let lent_of : NoteRooms = note_rooms notes_of in
    let stands_here : standing c.args.builder rooms_here ≡ true = stood c.args.builder c.args.noted c.args.offer.lats.now c.args.offer.lons.now c.args.offer.pieces.now
    c.args.offer.sizes.now c.args.offer.values.now rooms_here lent_of c.args.wide lists_of notes_of refl c.stands.result c.stands.ensures c.if-not-stands.false in
    few_here c.args.builder c.args.offer.lats.now c.args.offer.lons.now c.args.offer.pieces.now c.args.offer.sizes.now c.args.offer.values.now rooms_here c.args.bytes.now c.args.wide refl
    stands_here _ c.take_offer-offered.result c.take_offer-offered.ensures _ c.in-Ok.is

pub returns-then-not-has_place : goal.returns-then-not-has_place
returns-then-not-has_place c =
    let lists_of : Lists = lists_as c.args.boxes.now c.args.borders.now c.args.lengths.now c.args.texts.now c.args.bytes.now in
    let rooms_here : Rooms = rooms_of lists_of (works_as c.args.starts.now c.args.keys.now c.args.spare.now c.args.kept.now c.args.held.now c.args.words.now
    c.args.places.now) in
    let notes_of : Notes = notes_as c.args.marks.now c.args.chains.now c.args.groups.now c.args.begins.now in
    let lent_of : NoteRooms = note_rooms notes_of in (
      full_adds c.args.builder c.args.noted c.args.offer.lats.now c.args.offer.lons.now c.args.offer.pieces.now c.args.offer.sizes.now c.args.offer.values.now rooms_here lent_of c.args.wide
          lists_of notes_of refl c.stands.result c.stands.ensures c.if-not-stands.false _ c.take_offer-offered.result c.take_offer-offered.ensures _ c.in-Ok.is
          c.sum_of-sum.result c.sum_of-sum.ensures c.has_place.result c.has_place.ensures c.if-not-has_place.true _ (as_refused _ _ _ c.alone-then-not-has_place.ensures),
      untouched refl,
    )

pub end_of-strings-requires : goal.end_of-strings-requires
end_of-strings-requires c =
    let lists_of : Lists = lists_as c.args.boxes.now c.args.borders.now c.args.lengths.now c.args.texts.now c.args.bytes.now in
    let rooms_here : Rooms = rooms_of lists_of (works_as c.args.starts.now c.args.keys.now c.args.spare.now c.args.kept.now c.args.held.now c.args.words.now
    c.args.places.now) in
    let notes_of : Notes = notes_as c.args.marks.now c.args.chains.now c.args.groups.now c.args.begins.now in
    let lent_of : NoteRooms = note_rooms notes_of in
    let stands_here : standing c.args.builder rooms_here ≡ true = stood c.args.builder c.args.noted c.args.offer.lats.now c.args.offer.lons.now c.args.offer.pieces.now
    c.args.offer.sizes.now c.args.offer.values.now rooms_here lent_of c.args.wide lists_of notes_of refl c.stands.result c.stands.ensures c.if-not-stands.false in
    strings_in c.args.builder c.args.offer.lats.now c.args.offer.lons.now c.args.offer.pieces.now c.args.offer.sizes.now c.args.offer.values.now rooms_here c.args.bytes.now c.args.wide refl
    stands_here _ c.take_offer-offered.result c.take_offer-offered.ensures _ c.in-Ok.is lent_of c.sum_of-sum.result c.sum_of-sum.ensures c.has_place.result
    c.has_place.ensures c.if-not-has_place.false

pub slice_bounds-yard-end : goal.slice_bounds-yard-end
slice_bounds-yard-end c =
    let lists_of : Lists = lists_as c.args.boxes.now c.args.borders.now c.args.lengths.now c.args.texts.now c.args.bytes.now in
    let rooms_here : Rooms = rooms_of lists_of (works_as c.args.starts.now c.args.keys.now c.args.spare.now c.args.kept.now c.args.held.now c.args.words.now
    c.args.places.now) in
    let notes_of : Notes = notes_as c.args.marks.now c.args.chains.now c.args.groups.now c.args.begins.now in
    let lent_of : NoteRooms = note_rooms notes_of in
    let stands_here : standing c.args.builder rooms_here ≡ true = stood c.args.builder c.args.noted c.args.offer.lats.now c.args.offer.lons.now c.args.offer.pieces.now
    c.args.offer.sizes.now c.args.offer.values.now rooms_here lent_of c.args.wide lists_of notes_of refl c.stands.result c.stands.ensures c.if-not-stands.false in
    sym (length-take-le _ _ (omega (
      arith,
      sum_in c.args.builder c.args.offer.lats.now c.args.offer.lons.now c.args.offer.pieces.now c.args.offer.sizes.now c.args.offer.values.now rooms_here
          c.args.bytes.now c.args.wide refl stands_here _ c.take_offer-offered.result c.take_offer-offered.ensures _ c.in-Ok.is,
      c.sum_of-sum.ensures,
    )))

pub slice_bounds-join-end : goal.slice_bounds-join-end
slice_bounds-join-end c =
    let lists_of : Lists = lists_as c.args.boxes.now c.args.borders.now c.args.lengths.now c.args.texts.now c.args.bytes.now in
    let rooms_here : Rooms = rooms_of lists_of (works_as c.args.starts.now c.args.keys.now c.args.spare.now c.args.kept.now c.args.held.now c.args.words.now
    c.args.places.now) in
    let notes_of : Notes = notes_as c.args.marks.now c.args.chains.now c.args.groups.now c.args.begins.now in
    let lent_of : NoteRooms = note_rooms notes_of in
    let stands_here : standing c.args.builder rooms_here ≡ true = stood c.args.builder c.args.noted c.args.offer.lats.now c.args.offer.lons.now c.args.offer.pieces.now
    c.args.offer.sizes.now c.args.offer.values.now rooms_here lent_of c.args.wide lists_of notes_of refl c.stands.result c.stands.ensures c.if-not-stands.false in
    size_in c.args.builder c.args.offer.lats.now c.args.offer.lons.now c.args.offer.pieces.now c.args.offer.sizes.now c.args.offer.values.now rooms_here c.args.bytes.now c.args.wide refl
    stands_here _ c.take_offer-offered.result c.take_offer-offered.ensures _ c.in-Ok.is

pub slice_bounds-join-end-2 : goal.slice_bounds-join-end-2
slice_bounds-join-end-2 c =
    let lists_of : Lists = lists_as c.args.boxes.now c.args.borders.now c.args.lengths.now c.args.texts.now c.args.bytes.now in
    let rooms_here : Rooms = rooms_of lists_of (works_as c.args.starts.now c.args.keys.now c.args.spare.now c.args.kept.now c.args.held.now c.args.words.now
    c.args.places.now) in
    let notes_of : Notes = notes_as c.args.marks.now c.args.chains.now c.args.groups.now c.args.begins.now in
    let lent_of : NoteRooms = note_rooms notes_of in
    let stands_here : standing c.args.builder rooms_here ≡ true = stood c.args.builder c.args.noted c.args.offer.lats.now c.args.offer.lons.now c.args.offer.pieces.now
    c.args.offer.sizes.now c.args.offer.values.now rooms_here lent_of c.args.wide lists_of notes_of refl c.stands.result c.stands.ensures c.if-not-stands.false in
    sym (length-take-le _ _ (size_in c.args.builder c.args.offer.lats.now c.args.offer.lons.now c.args.offer.pieces.now c.args.offer.sizes.now c.args.offer.values.now rooms_here
    c.args.bytes.now c.args.wide refl stands_here _ c.take_offer-offered.result c.take_offer-offered.ensures _ c.in-Ok.is))

pub join-requires : goal.join-requires
join-requires c =
    let lists_of : Lists = lists_as c.args.boxes.now c.args.borders.now c.args.lengths.now c.args.texts.now c.args.bytes.now in
    let rooms_here : Rooms = rooms_of lists_of (works_as c.args.starts.now c.args.keys.now c.args.spare.now c.args.kept.now c.args.held.now c.args.words.now
    c.args.places.now) in
    let notes_of : Notes = notes_as c.args.marks.now c.args.chains.now c.args.groups.now c.args.begins.now in
    let lent_of : NoteRooms = note_rooms notes_of in
    let stands_here : standing c.args.builder rooms_here ≡ true = stood c.args.builder c.args.noted c.args.offer.lats.now c.args.offer.lons.now c.args.offer.pieces.now
    c.args.offer.sizes.now c.args.offer.values.now rooms_here lent_of c.args.wide lists_of notes_of refl c.stands.result c.stands.ensures c.if-not-stands.false in (
      strings_are c.args.builder c.args.offer.lats.now c.args.offer.lons.now c.args.offer.pieces.now c.args.offer.sizes.now c.args.offer.values.now rooms_here c.args.bytes.now c.args.wide refl
          stands_here _ c.take_offer-offered.result c.take_offer-offered.ensures _ c.in-Ok.is lent_of c.sum_of-sum.result c.sum_of-sum.ensures c.has_place.result
          c.has_place.ensures c.if-not-has_place.false _ c.end_of-strings.ensures,
      placed_here c.args.builder c.args.offer.lats.now c.args.offer.lons.now c.args.offer.pieces.now
          c.args.offer.sizes.now c.args.offer.values.now rooms_here c.args.bytes.now c.args.wide refl stands_here _ c.take_offer-offered.result c.take_offer-offered.ensures _
          c.in-Ok.is lent_of c.sum_of-sum.result c.sum_of-sum.ensures c.has_place.result c.has_place.ensures c.if-not-has_place.false lists_of refl refl refl refl
          refl,
      measuring_here c.args.builder c.args.offer.lats.now c.args.offer.lons.now c.args.offer.pieces.now c.args.offer.sizes.now c.args.offer.values.now rooms_here c.args.bytes.now
          c.args.wide refl stands_here _ c.take_offer-offered.result c.take_offer-offered.ensures _ c.in-Ok.is lent_of c.sum_of-sum.result c.sum_of-sum.ensures
          c.has_place.result c.has_place.ensures c.if-not-has_place.false _ c.end_of-strings.ensures,
    )

pub returns : goal.returns
returns c =
    let lists_of : Lists = lists_as c.args.boxes.now c.args.borders.now c.args.lengths.now c.args.texts.now c.args.bytes.now in
    let rooms_here : Rooms = rooms_of lists_of (works_as c.args.starts.now c.args.keys.now c.args.spare.now c.args.kept.now c.args.held.now c.args.words.now
    c.args.places.now) in
    let notes_of : Notes = notes_as c.args.marks.now c.args.chains.now c.args.groups.now c.args.begins.now in
    let lent_of : NoteRooms = note_rooms notes_of in (
      joined_adds c.args.builder c.args.noted c.args.offer.lats.now c.args.offer.lons.now c.args.offer.pieces.now c.args.offer.sizes.now c.args.offer.values.now rooms_here lent_of c.args.wide
          lists_of notes_of refl c.stands.result c.stands.ensures c.if-not-stands.false _ c.take_offer-offered.result c.take_offer-offered.ensures _ c.in-Ok.is
          c.sum_of-sum.result c.sum_of-sum.ensures c.has_place.result c.has_place.ensures c.if-not-has_place.false _ _ _ c.join.ensures.0,
      c.join.ensures.1,
    )
