-- `atlas::own::is_atlas` meets its contract, by how far it came.
use Rattle.numbers.proofs.Prelude.{ℕ, ◌≤◌, length, sym, ap, ◌∙◌, arith}
use Rattle.index.specs.Own.{is_index_of}
use Rattle.atlas.specs.inner.Building.{behind_of, is_behind, end_of}
use Rattle.atlas.proofs.{Owned.{front_part, records_inside, atlas_so, is_tied, not_index, not_opened, not_behind}}
use Rattle.atlas.proofs.own.is_atlas.Goals as goal

pub returns-then-is_err : goal.returns-then-is_err
returns-then-is_err c =
    let same = ap (is_index_of c.args.file.now) (front_part c.args.words.now c.end_of-end.ensures.0) in
    rw c.alone.ensures (not_index c.args.file.now c.args.words.now c.is_index.result (sym c.is_err.ensures.value ∙ c.if-is_err.true) (c.is_index.ensures ∙ same))

pub returns-in_default : goal.returns-in_default
returns-in_default c =
    rw c.alone-in_default.ensures (not_opened c.args.file.now c.args.words.now (sym c.in_default.is ∙ c.head_of.ensures))

pub same_behind-requires : goal.same_behind-requires
same_behind-requires c =
    let same = ap (is_index_of c.args.file.now) (front_part c.args.words.now c.end_of-end.ensures.0) in
    let opened = sym c.in-Ok.is ∙ c.head_of.ensures in
    let few : end_of c.args.words.now ≤ length c.args.words.now = omega (arith, c.end_of-end.ensures.0, c.end_of-end.ensures.1) in
    let yes-index = is_tied c.is_index.result (sym c.is_err.ensures.value ∙ c.if-is_err.false) (c.is_index.ensures ∙ same) in
    (omega (arith, records_inside c.args.file.now c.args.words.now opened yes-index few), c.end_of-end.ensures.2)

pub returns-then-not-same_behind : goal.returns-then-not-same_behind
returns-then-not-same_behind c =
    let same = ap (is_index_of c.args.file.now) (front_part c.args.words.now c.end_of-end.ensures.0) in
    let opened = sym c.in-Ok.is ∙ c.head_of.ensures in
    rw c.alone-then-not-same_behind.ensures (not_behind c.args.file.now c.args.words.now opened (ap (λ (k : ℕ). is_behind c.args.words.now (behind_of
    c.args.file.now c.in-Ok.head c.args.words.now k) k) (sym c.end_of-end.ensures.0) ∙ sym c.same_behind.ensures ∙ c.if-not-same_behind.true))

pub returns : goal.returns
returns c =
    let same = ap (is_index_of c.args.file.now) (front_part c.args.words.now c.end_of-end.ensures.0) in
    let opened = sym c.in-Ok.is ∙ c.head_of.ensures in
    let few : end_of c.args.words.now ≤ length c.args.words.now = omega (arith, c.end_of-end.ensures.0, c.end_of-end.ensures.1) in
    let yes-index = is_tied c.is_index.result (sym c.is_err.ensures.value ∙ c.if-is_err.false) (c.is_index.ensures ∙ same) in
    atlas_so c.args.file.now c.args.words.now opened yes-index few (ap (λ (k : ℕ). is_behind c.args.words.now (behind_of c.args.file.now c.in-Ok.head
    c.args.words.now k) k) (sym c.end_of-end.ensures.0) ∙ sym c.same_behind.ensures ∙ c.if-not-same_behind.false)
