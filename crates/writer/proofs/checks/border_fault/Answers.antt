-- `writer::checks::border_fault` meets its contract.
use Rattle.numbers.proofs.Prelude.{ℕ, drop, true, ◌≡◌, sym, ap, ◌∙◌, arith}
use Rattle.numbers.specs.Reply.{refused, refusal}
use Rattle.writer.specs.{Moves.{moves_of, is_move}, Writer.{every, near}}
use Rattle.writer.proofs.{Faults.{Early, sizes, long_data, odd_version, not_sized, far_lat, far_lon, repeated, at_origin, no_fault}}
-- ---- what each check that passed says
use Rattle.writer.proofs.checks.border_fault.Goals as goal

pub returns-then-earlier-gt-LARGEST_FILE : goal.returns-then-earlier-gt-LARGEST_FILE
returns-then-earlier-gt-LARGEST_FILE c =
    ap refused c.alone.ensures ∙ long_data _ _ _ _ c.if-earlier-gt-LARGEST_FILE.true

-- ---- the answers
pub returns-then-version-ge2 : goal.returns-then-version-ge2
returns-then-version-ge2 c =
    ap refused c.with.ensures ∙ ap (λ (n : ℕ). refused (refusal 5 0 n)) c.from.ensures ∙ odd_version _ _ _ _ c.if-earlier-gt-LARGEST_FILE.false c.if-version-ge2.true

pub returns-then-not-is_sized : goal.returns-then-not-is_sized
returns-then-not-is_sized c =
    ap refused c.alone-then-not-is_sized.ensures ∙ not_sized _ _ _ _ c.if-earlier-gt-LARGEST_FILE.false c.if-version-ge2.false (sym c.is_sized.ensures
    ∙ c.if-not-is_sized.true)

pub returns-then-not-all_near : goal.returns-then-not-all_near
returns-then-not-all_near c =
    let early : Early c.args.version c.args.lats.now c.args.lons.now c.args.earlier.now = record {
      short = c.if-earlier-gt-LARGEST_FILE.false;
      version_known =
          c.if-version-ge2.false;
      right = sym c.is_sized.ensures ∙ c.if-not-is_sized.false;
    } in
    ap refused c.alone-then-not-all_near.ensures ∙ far_lat early (sym c.all_near.ensures ∙ c.if-not-all_near.true)

pub returns-then-not-all_near-2 : goal.returns-then-not-all_near-2
returns-then-not-all_near-2 c =
    let early : Early c.args.version c.args.lats.now c.args.lons.now c.args.earlier.now = record {
      short = c.if-earlier-gt-LARGEST_FILE.false;
      version_known =
          c.if-version-ge2.false;
      right = sym c.is_sized.ensures ∙ c.if-not-is_sized.false;
    } in
    let north : every near c.args.lats.now ≡ true = sym c.all_near.ensures ∙ c.if-not-all_near.false in
    ap refused c.alone-then-not-all_near-2.ensures ∙ far_lon early north (sym c.all_near-2.ensures ∙ c.if-not-all_near-2.true)

pub none_repeated-requires : goal.none_repeated-requires
none_repeated-requires c =
    let early : Early c.args.version c.args.lats.now c.args.lons.now c.args.earlier.now = record {
      short = c.if-earlier-gt-LARGEST_FILE.false;
      version_known =
          c.if-version-ge2.false;
      right = sym c.is_sized.ensures ∙ c.if-not-is_sized.false;
    } in
    let s = sizes _ _ early.right in
    (s.some, s.same)

pub returns-then-not-none_repeated : goal.returns-then-not-none_repeated
returns-then-not-none_repeated c =
    let early : Early c.args.version c.args.lats.now c.args.lons.now c.args.earlier.now = record {
      short = c.if-earlier-gt-LARGEST_FILE.false;
      version_known =
          c.if-version-ge2.false;
      right = sym c.is_sized.ensures ∙ c.if-not-is_sized.false;
    } in
    let north : every near c.args.lats.now ≡ true = sym c.all_near.ensures ∙ c.if-not-all_near.false in
    let east : every near c.args.lons.now ≡ true = sym c.all_near-2.ensures ∙ c.if-not-all_near-2.false in
    ap refused c.alone-then-not-none_repeated.ensures ∙ repeated early north east (sym c.none_repeated.ensures ∙ c.if-not-none_repeated.true)

pub moves_at-requires : goal.moves_at-requires
moves_at-requires c =
    let early : Early c.args.version c.args.lats.now c.args.lons.now c.args.earlier.now = record {
      short = c.if-earlier-gt-LARGEST_FILE.false;
      version_known =
          c.if-version-ge2.false;
      right = sym c.is_sized.ensures ∙ c.if-not-is_sized.false;
    } in
    let s = sizes _ _ early.right in
    (s.some, omega (arith, s.some, s.same))

pub returns-then-not-moves_at : goal.returns-then-not-moves_at
returns-then-not-moves_at c =
    let early : Early c.args.version c.args.lats.now c.args.lons.now c.args.earlier.now = record {
      short = c.if-earlier-gt-LARGEST_FILE.false;
      version_known =
          c.if-version-ge2.false;
      right = sym c.is_sized.ensures ∙ c.if-not-is_sized.false;
    } in
    let north : every near c.args.lats.now ≡ true = sym c.all_near.ensures ∙ c.if-not-all_near.false in
    let east : every near c.args.lons.now ≡ true = sym c.all_near-2.ensures ∙ c.if-not-all_near-2.false in
    let apart : every is_move (drop 1 (moves_of c.args.lats.now c.args.lons.now)) ≡ true = sym c.none_repeated.ensures ∙ c.if-not-none_repeated.false in
    ap refused c.alone-then-not-moves_at.ensures ∙ at_origin early north east apart (sym c.moves_at.ensures ∙ c.if-not-moves_at.true)

pub returns : goal.returns
returns c =
    let early : Early c.args.version c.args.lats.now c.args.lons.now c.args.earlier.now = record {
      short = c.if-earlier-gt-LARGEST_FILE.false;
      version_known =
          c.if-version-ge2.false;
      right = sym c.is_sized.ensures ∙ c.if-not-is_sized.false;
    } in
    let north : every near c.args.lats.now ≡ true = sym c.all_near.ensures ∙ c.if-not-all_near.false in
    let east : every near c.args.lons.now ≡ true = sym c.all_near-2.ensures ∙ c.if-not-all_near-2.false in
    let apart : every is_move (drop 1 (moves_of c.args.lats.now c.args.lons.now)) ≡ true = sym c.none_repeated.ensures ∙ c.if-not-none_repeated.false in
    no_fault early north east apart (sym c.moves_at.ensures ∙ c.if-not-moves_at.false)
