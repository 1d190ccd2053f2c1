-- `index::lookup::through_in` meets its contract, by whether the tile's list stands.
use Rattle.numbers.proofs.Prelude.{ℕ, ◌+◌, ◌-◌, ◌*◌, length, take, drop, List, ◌≡◌, refl, sym, ap, ◌∙◌, arith}
use Rattle.index.proofs.{Through.{place_inside, refused_zeros, no_place, listed_there}}
use Rattle.index.specs.{Index.{records_at}, Through.{records_in}, Tied.{word_at}}
use Rattle.index.proofs.lookup.through_in.Goals as goal

-- the records that were lent
records_part : (words : List ℕ) {w : ℕ} → w ≡ word_at words 2 → take (records_at + 7 * w - records_at) (drop records_at words) ≡ records_in words
records_part words {w} e = let k : records_at + 7 * w - records_at ≡ 7 * word_at words 2 = omega (arith, e) in ap (λ (j : ℕ). take j (drop records_at words)) k

pub returns-in-Err : goal.returns-in-Err
returns-in-Err c =
    let n = length c.args.hits.now in
    let room = length c.args.text.now in
    refused_zeros n room (no_place n room c.args.file.now c.args.index.now c.args.location c.args.asked c.args.head (sym c.in-Err.is ∙ c.list_of.ensures)) c.zero_both.ensures.0 c.zero_both.ensures.1

pub bounds-index-2 : goal.bounds-index-2
bounds-index-2 c =
    let inside = place_inside (length c.args.file.now) c.args.head c.args.index.now c.args.location (sym c.in-Ok.is ∙ c.list_of.ensures) in
    omega (arith, inside.0, inside.1, inside.2, inside.3)

pub slice_bounds-lookup_listed-end : goal.slice_bounds-lookup_listed-end
slice_bounds-lookup_listed-end c =
    let inside = place_inside (length c.args.file.now) c.args.head c.args.index.now c.args.location (sym c.in-Ok.is ∙ c.list_of.ensures) in
    omega (arith, inside.0, inside.1, inside.2, inside.3, c.wide.ensures.0)

pub offset_bounds-index-from : goal.offset_bounds-index-from
offset_bounds-index-from c =
    let inside = place_inside (length c.args.file.now) c.args.head c.args.index.now c.args.location (sym c.in-Ok.is ∙ c.list_of.ensures) in
    omega (arith, inside.0, inside.1, inside.2, inside.3, c.wide.ensures.0)

pub slice_bounds-lookup_listed-count-2 : goal.slice_bounds-lookup_listed-count-2
slice_bounds-lookup_listed-count-2 c =
    let inside = place_inside (length c.args.file.now) c.args.head c.args.index.now c.args.location (sym c.in-Ok.is ∙ c.list_of.ensures) in
    omega (arith, inside.0, inside.1, inside.2, inside.3, c.wide.ensures.0)

pub slice_bounds-lookup_listed-start-2 : goal.slice_bounds-lookup_listed-start-2
slice_bounds-lookup_listed-start-2 c =
    let inside = place_inside (length c.args.file.now) c.args.head c.args.index.now c.args.location (sym c.in-Ok.is ∙ c.list_of.ensures) in
    omega (arith, inside.0, inside.1, inside.2, inside.3, c.wide.ensures.0)

pub slice_bounds-lookup_listed-end-2 : goal.slice_bounds-lookup_listed-end-2
slice_bounds-lookup_listed-end-2 c =
    let inside = place_inside (length c.args.file.now) c.args.head c.args.index.now c.args.location (sym c.in-Ok.is ∙ c.list_of.ensures) in
    omega (arith, inside.0, inside.1, inside.2, inside.3, c.wide.ensures.0)

pub returns : goal.returns
returns c =
    let n = length c.args.hits.now in
    let room = length c.args.text.now in
    let stands = sym c.in-Ok.is ∙ c.list_of.ensures in
    c.lookup_listed.ensures ∙ listed_there n room c.args.file.now c.args.index.now c.args.location c.args.asked c.args.head stands (records_part c.args.index.now
    c.wide.ensures.0) refl
