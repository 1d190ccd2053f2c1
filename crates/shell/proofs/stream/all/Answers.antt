use Rattle.std.proofs.Common.{rules, [], ◌++◌, take, ◌≡◌, subst, ◌∙◌, refl}
use Rattle.std.proofs.KnownBytes.{Appends-nil, Appends-trans, Consumes-nil, Consumes-trans, Consumes-whole}
use Rattle.std.specs.Io.KnownBytes.{Appends}
use Rattle.shell.proofs.Came.{lines_begin, worst_begin, left_begin, lines_on, left_on, worst_on, lines_all, worst_all, at_end, if_ok, on_ok}
use Rattle.shell.specs.Written.{written, status_of}
use Rattle.shell.proofs.stream.all.Goals as goal

pub loop-init : goal.loop-init
loop-init g c = (
  [],
  Consumes-nil _,
  subst (Appends _ _) (lines_begin c.args.map.now c.args.zones.now) (Appends-nil _),
  left_begin c.args.map.now c.args.zones.now,
  worst_begin
      c.args.map.now c.args.zones.now,
  c.requires,
  refl,
)

pub loop-preserved : goal.loop-preserved
loop-preserved g c =
    let (came, consumed, appended, rest, status, ready, long) = c.loop.invariant in
    let part = take c.in-Ok.size c.read.new.buf in
    let line = take c.loop.used c.loop.line in
    let map = c.args.map.now in
    let zones = c.args.zones.now in
    let first = g.W.Write.contents c.args.writer.now in
    let now = g.W.Write.contents c.piece.new.writer in
    let served = c.in_ok-state.ensures.served in (
      came ++ part,
      Consumes-trans _ _ _ _ _ consumed c.in-Ok.ensures.bytes.0,
      subst (Appends first now) (lines_on map zones came part line rest) (Appends-trans first (g.W.Write.contents c.loop.writer) now _ _ appended
          c.in_ok-state.ensures.lines),
      c.in_ok-state.ensures.rest ∙ left_on map zones came part line rest,
      worst_on map zones came part line rest c.loop.status c.in_ok-state.state.status status c.in_ok-state.ensures.faults,
      record { fits = served.fits; kept = served.kept; rooms = served.rooms },
      search rules,
    )

pub returns-then-size-eq0-clause-lines : goal.returns-then-size-eq0-clause-lines
returns-then-size-eq0-clause-lines g c =
    let (came, consumed, appended, rest, status, ready, long) = c.loop.invariant in
    on_ok c.finish.result c.finish.ensures.lines
    (λ ends. Consumes-whole _ _ came (λ input. Appends (g.W.Write.contents c.args.writer.now) (g.W.Write.contents c.finish.new.writer) (written c.args.map.now
    c.args.zones.now input)) (at_end _ _ _ came c.read.new.buf c.in-Ok.size consumed c.in-Ok.ensures.bytes c.if-size-eq0.true (search rules)).0
    (at_end _ _ _ came c.read.new.buf c.in-Ok.size consumed c.in-Ok.ensures.bytes c.if-size-eq0.true (search rules)).1
    (subst (Appends _ _) (lines_all c.args.map.now c.args.zones.now came (take c.loop.used c.loop.line) rest) (Appends-trans _ _ _ _ _ appended ends)))

pub returns-then-size-eq0-clause-status : goal.returns-then-size-eq0-clause-status
returns-then-size-eq0-clause-status g c =
    let (came, consumed, appended, rest, status, ready, long) = c.loop.invariant in
    if_ok c.finish.result c.finish.ensures.faults
    (λ answer e. Consumes-whole _ _ came (λ input. answer ≡ status_of c.args.map.now c.args.zones.now input) (at_end _ _ _ came c.read.new.buf c.in-Ok.size consumed
    c.in-Ok.ensures.bytes c.if-size-eq0.true (search rules)).0
    (at_end _ _ _ came c.read.new.buf c.in-Ok.size consumed c.in-Ok.ensures.bytes c.if-size-eq0.true (search rules)).1 (worst_all c.args.map.now c.args.zones.now
    came (take c.loop.used c.loop.line) rest c.loop.status answer status e))
