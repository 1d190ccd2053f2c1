-- `add::offered::draw::take_offer` meets its contract.
use Rattle.numbers.proofs.Replies.{passed_on}
use Rattle.add.proofs.offered.{Offering.{lent_enough, offer_refused, offer_drawn}}
use Rattle.add.specs.Offered.Offer.{offer_of}
use Rattle.add.proofs.offered.draw.take_offer.Goals as goal

pub returns-in_err-check_offer : goal.returns-in_err-check_offer
returns-in_err-check_offer c =
    rw (passed_on c.from_residual.result c.from_residual.ensures.1) (offer_refused c.args.builder (offer_of c.args.offer) c.args.bytes.now _
    c.check_offer.result c.check_offer.ensures _ c.in_err-check_offer.was _)

pub draw_offer-requires : goal.draw_offer-requires
draw_offer-requires c = (
  c.requires.0,
  lent_enough c.args.builder.yards c.args.builder.names (offer_of c.args.offer) c.check_offer.result c.check_offer.ensures c.in_ok-check_offer.was _
      _ c.requires.1,
)

pub returns : goal.returns
returns c =
    offer_drawn c.args.builder (offer_of c.args.offer) c.args.bytes.now _
    c.check_offer.result c.check_offer.ensures c.in_ok-check_offer.was _ _ c.draw_offer.ensures
