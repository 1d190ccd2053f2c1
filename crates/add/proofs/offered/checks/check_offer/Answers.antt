-- `add::offered::checks::check_offer` meets its contract.
use Rattle.numbers.{proofs.{Prelude.{ap, ◌∙◌}, Replies.{passed_on}}, specs.Reply.{refused}}
use Rattle.add.proofs.offered.{Offering.{border_bad, many_yards, other_names, texts_bad, all_good}}
use Rattle.add.specs.Offered.Offer.{offer_of}
use Rattle.add.proofs.offered.checks.check_offer.Goals as goal

pub returns-in_err-check_border : goal.returns-in_err-check_border
returns-in_err-check_border c =
    passed_on c.from_residual.result c.from_residual.ensures.1 ∙ border_bad _ _ (offer_of c.args.offer) c.check_border.result
    c.check_border.ensures _ c.in_err-check_border.was

pub returns-then-yards-ge4096 : goal.returns-then-yards-ge4096
returns-then-yards-ge4096 c =
    many_yards _ _ (offer_of c.args.offer) c.check_border.result
    c.check_border.ensures c.in_ok-check_border.was c.if-yards-ge4096.true _ (ap refused c.alone.ensures)

pub returns-then-offer-names : goal.returns-then-offer-names
returns-then-offer-names c =
    other_names _ _ (offer_of c.args.offer) c.check_border.result
    c.check_border.ensures c.in_ok-check_border.was c.if-yards-ge4096.false c.if-offer-names.true _
    (ap refused c.alone-then-offer-names.ensures)

pub returns-then-not-are_texts : goal.returns-then-not-are_texts
returns-then-not-are_texts c =
    texts_bad _ _ (offer_of c.args.offer) c.check_border.result
    c.check_border.ensures c.in_ok-check_border.was c.if-yards-ge4096.false c.if-offer-names.false _
    c.are_texts.ensures c.if-not-are_texts.true _ (ap refused c.alone-then-not-are_texts.ensures)

pub returns : goal.returns
returns c =
    all_good _ _ (offer_of c.args.offer) c.check_border.result
    c.check_border.ensures c.in_ok-check_border.was c.if-yards-ge4096.false c.if-offer-names.false _
    c.are_texts.ensures c.if-not-are_texts.false
