-- A yard as it is lent for an offer.
use Rattle.draft.specs.Held.Builder.{Offered}
use Rattle.add.specs.{Offered.Offers.{offered_as}, declared.offered.offer.Offer.{Offer}}

abbrev pub offer_of : Offer → Offered
offer_of o = offered_as o.lats.now o.lons.now o.pieces.now o.sizes.now o.values.now
