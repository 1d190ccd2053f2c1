-- `header::header::read_preamble` meets its contract.
use Rattle.numbers.{proofs.{Prelude.{◌^◌, eq-eqb, ne_eqb, lt-ltb, le-leb, le-ltb, lt-leb, length, sym, ap, ◌∙◌, arith}, Replies.{met, unmet}}, specs.Reply.{refusal, refused}}
use Rattle.header.specs.Header.{preamble_of}
use Rattle.header.proofs.header.read_preamble.Goals as goal

pub returns-then-file-gt-LARGEST_FILE : goal.returns-then-file-gt-LARGEST_FILE
unfolding preamble_of
returns-then-file-gt-LARGEST_FILE c =
    ap refused c.alone.ensures ∙ unmet (lt-leb (length c.args.file.now) (2 ^ 30) (omega arith)) _ _

pub returns-then-file-lt7 : goal.returns-then-file-lt7
unfolding preamble_of
returns-then-file-lt7 c =
    ap refused c.with.ensures ∙ unmet (lt-leb 7 (length c.args.file.now) (omega arith)) _ _ ∙ met (le-leb (length c.args.file.now) (2 ^ 30) (omega arith)) _ _

pub returns-then-magic-ne5262402 : goal.returns-then-magic-ne5262402
unfolding preamble_of
returns-then-magic-ne5262402 c =
    ap refused (c.with-then-magic-ne5262402.ensures ∙ ap (refusal 3 0) c.magic_of-magic.ensures)
    ∙ unmet (ne_eqb _ _ (λ e. c.if-magic-ne5262402.true (c.magic_of-magic.ensures ∙ e))) _ _ ∙ met (le-leb 7 (length c.args.file.now) (omega arith)) _ _
    ∙ met (le-leb (length c.args.file.now) (2 ^ 30) (omega arith)) _ _

pub returns-then-not-is_kind : goal.returns-then-not-is_kind
unfolding preamble_of
returns-then-not-is_kind c =
    ap refused c.with-then-not-is_kind.ensures ∙ unmet (sym c.is_kind.ensures ∙ c.if-not-is_kind.true) _ _ ∙ met (eq-eqb _ _ (sym c.magic_of-magic.ensures
    ∙ c.if-magic-ne5262402.false)) _ _ ∙ met (le-leb 7 (length c.args.file.now) (omega arith)) _ _ ∙ met (le-leb (length c.args.file.now) (2 ^ 30) (omega arith)) _ _

pub returns-then-version-ge2 : goal.returns-then-version-ge2
unfolding preamble_of
returns-then-version-ge2 c =
    ap refused c.with-then-version-ge2.ensures ∙ unmet (le-ltb _ _ c.if-version-ge2.true) _ _ ∙ met (sym c.is_kind.ensures ∙ c.if-not-is_kind.false) _ _
    ∙ met (eq-eqb _ _ (sym c.magic_of-magic.ensures ∙ c.if-magic-ne5262402.false)) _ _ ∙ met (le-leb 7 (length c.args.file.now) (omega arith)) _ _
    ∙ met (le-leb (length c.args.file.now) (2 ^ 30) (omega arith)) _ _

pub returns : goal.returns
unfolding preamble_of
returns c =
    met (lt-ltb _ _ c.if-version-ge2.false) _ _ ∙ met (sym c.is_kind.ensures ∙ c.if-not-is_kind.false) _ _ ∙ met (eq-eqb _ _ (sym c.magic_of-magic.ensures
    ∙ c.if-magic-ne5262402.false)) _ _ ∙ met (le-leb 7 (length c.args.file.now) (omega arith)) _ _ ∙ met (le-leb (length c.args.file.now) (2 ^ 30) (omega arith)) _ _
