-- `writer::pieces::is_accepted` meets its contract.
use Rattle.numbers.proofs.Prelude.{sym, ◌∙◌}
use Rattle.writer.proofs.{Accepting.{Inside, low, empty, past_lats, past_lons, outside, forward, behind, backward}}
use Rattle.writer.proofs.pieces.is_accepted.Goals as goal

pub returns-then-first-free : goal.returns-then-first-free
returns-then-first-free c =
    low _ _ _ _ _ c.if-first-free.true

pub returns-then-last-first : goal.returns-then-last-first
returns-then-last-first c =
    empty _ _ _ _ _ c.if-first-free.false c.if-last-first.true

pub returns-then-lats-last : goal.returns-then-lats-last
returns-then-lats-last c =
    past_lats _ _ _ _ _ c.if-first-free.false c.if-last-first.false c.if-lats-last.true

pub returns-then-lons-last : goal.returns-then-lons-last
returns-then-lons-last c =
    past_lons _ _ _ _ _ c.if-first-free.false c.if-last-first.false c.if-lons-last.true

pub returns-then-earlier-end : goal.returns-then-earlier-end
returns-then-earlier-end c =
    outside _ _ _ _ _ c.if-first-free.false c.if-last-first.false c.if-lats-last.false c.if-lons-last.false c.if-earlier-end.true

pub run_spells-requires : goal.run_spells-requires
run_spells-requires c =
    let inside : Inside c.args.earlier.now c.args.lats.now c.args.lons.now c.args.free c.args.piece = record {
      rises = c.if-first-free.false;
      full =
          c.if-last-first.false;
      among_lats = c.if-lats-last.false;
      among_lons = c.if-lons-last.false;
      lies = c.if-earlier-end.false;
    } in
    let t = inside in
    (t.among_lats, t.among_lons)

pub returns-then-piece-eq0 : goal.returns-then-piece-eq0
returns-then-piece-eq0 c =
    let inside : Inside c.args.earlier.now c.args.lats.now c.args.lons.now c.args.free c.args.piece = record {
      rises = c.if-first-free.false;
      full =
          c.if-last-first.false;
      among_lats = c.if-lats-last.false;
      among_lons = c.if-lons-last.false;
      lies = c.if-earlier-end.false;
    } in
    forward inside c.if-piece-eq0.true c.run_spells.ensures

pub returns-then-not-clear_before : goal.returns-then-not-clear_before
returns-then-not-clear_before c =
    let inside : Inside c.args.earlier.now c.args.lats.now c.args.lons.now c.args.free c.args.piece = record {
      rises = c.if-first-free.false;
      full =
          c.if-last-first.false;
      among_lats = c.if-lats-last.false;
      among_lons = c.if-lons-last.false;
      lies = c.if-earlier-end.false;
    } in
    behind inside c.if-piece-eq0.false (sym c.clear_before.ensures ∙ c.if-not-clear_before.true)

pub run_spells-requires-2 : goal.run_spells-requires-2
run_spells-requires-2 c =
    let inside : Inside c.args.earlier.now c.args.lats.now c.args.lons.now c.args.free c.args.piece = record {
      rises = c.if-first-free.false;
      full =
          c.if-last-first.false;
      among_lats = c.if-lats-last.false;
      among_lons = c.if-lons-last.false;
      lies = c.if-earlier-end.false;
    } in
    let t = inside in
    (t.among_lats, t.among_lons)

pub returns : goal.returns
returns c =
    let inside : Inside c.args.earlier.now c.args.lats.now c.args.lons.now c.args.free c.args.piece = record {
      rises = c.if-first-free.false;
      full =
          c.if-last-first.false;
      among_lats = c.if-lats-last.false;
      among_lons = c.if-lons-last.false;
      lies = c.if-earlier-end.false;
    } in
    backward inside c.if-piece-eq0.false (sym c.clear_before.ensures ∙ c.if-not-clear_before.false) c.run_spells-2.ensures
