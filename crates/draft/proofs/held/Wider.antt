-- A builder's lists may grow between two calls: with zeros behind them it holds what it held. Assumes nothing.
use Rattle.numbers.proofs.Prelude.{ℕ, ◌+◌, ◌-◌, pos, length, replicate, List, ◌++◌, append_assoc, ap, ◌∙◌}
use lib.ListN.{replicate-append-replicate}
use Rattle.builder.specs.{Borders.{Drawn}, Yards.{Plan}}
use Rattle.draft.proofs.held.Fronts.{front_made}
use Rattle.draft.specs.{Held.{Builder.{Builder}, State.{Front, Holds, Lies, Lists, More, wider}}, declared.held.state.Held.{Held}}

-- so many of an item more
pub front_wider : {A : Type 0} (none : A) {front list : List A} (more : ℕ) → Front none front list → Front none front (list ++ replicate more none)
front_wider none {front} {list} more f = let left : ℕ = length list - length front in
    front_made none front (list ++ replicate more none) (left + more) (ap (λ (l : List _). l ++ replicate more none) f.is
    ∙ (append_assoc front (replicate left none) (replicate more none) ∙ ap (λ (l : List _). front ++ l) (replicate-append-replicate left more none)))

lies_wider : (more : More) (plan : Plan) (drawn : Drawn) (lists : Lists) → Lies plan drawn lists → Lies plan drawn (wider more lists)
lies_wider more plan drawn lists l =
    record {
      boxes_are = front_wider (pos 0) more.boxes l.boxes_are;
      borders_are = front_wider 0 more.borders l.borders_are;
      lengths_are = front_wider 0 more.lengths l.lengths_are;
      texts_are = front_wider 0 more.texts l.texts_are;
      bytes_are = front_wider 0 more.bytes l.bytes_are;
    }

-- A builder is held in its lists with zeros behind them as it was in them.
pub holds_wider : (more : More) (b : Builder) (held : Held) (lists : Lists) → Holds b held lists → Holds b held (wider more lists)
holds_wider more b held lists h = record { is = h.is; sound = h.sound; fresh = h.fresh; lies = lies_wider more b.plan _ lists h.lies }
