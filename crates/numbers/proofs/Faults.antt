-- Each number stands for one refusal. Assumes nothing.
use Rattle.numbers.proofs.Prelude.{ℕ, eqb, List, [], ◌∷◌, ◌≡◌, refl, sym, ap, ◌∙◌}
use Rattle.numbers.specs.{Answer.{if◌then◌else◌}, Fault.{number_of}, declared.fault.Fault.{Fault}}
use Rattle.numbers.specs.declared.fault.Fault.TheVariants as F

faults : List Fault
faults =
    F.FileTooLarge ∷ F.FileTooShort ∷ F.NoMagic ∷ F.UnknownType ∷ F.UnknownVersion ∷ F.BadName ∷ F.BadNotice ∷ F.NoFirstSize ∷ F.NoSecondSize ∷
    F.NoThirdSize ∷ F.WrongLength ∷ F.LongNumber ∷ F.OutOfRange ∷ F.StringPastEnd ∷ F.BadField ∷ F.BadPrecision ∷ F.HitsFull ∷ F.TextFull ∷
    F.BadBorder ∷ F.TooFar ∷ F.RepeatedPoint ∷ F.StartsAtZero ∷ F.BadPieces ∷ F.OutputFull ∷ F.BadYards ∷ F.BadText ∷ F.UnknownForm ∷ F.FileFull ∷
    F.NoYard ∷ F.NoValue ∷ F.Incomplete ∷ F.NothingLeft ∷ F.BadFixes ∷ F.BadTable ∷ F.IndexFull ∷ F.OtherIndex ∷ F.TzifMagic ∷ F.TzifVersion ∷
    F.TzifHeader ∷ F.TzifUts ∷ F.TzifStandards ∷ F.TzifTypes ∷ F.TzifCharacters ∷ F.TzifBlock ∷ F.TzifTime ∷ F.TzifType ∷ F.TzifOffset ∷
    F.TzifDaylight ∷ F.TzifIndex ∷ F.TzifDesignation ∷ F.TzifOccurrence ∷ F.TzifCorrection ∷ F.TzifStandard ∷ F.TzifUt ∷ F.TzifFooter ∷ F.TzifRest ∷
    F.TzifString ∷ F.YearOutside ∷ F.EntryFails ∷ F.BorderFails ∷ F.StringOutside ∷ F.NothingFollows ∷ F.NotRequest ∷ F.NoFix ∷ F.BadChecksum ∷
    F.OtherSentence ∷ F.NoPlace ∷ F.NotWhole ∷ F.NoZone ∷ F.NoNames ∷ F.NoFile ∷ F.DamagedBundle ∷ F.UnknownHour ∷ F.LeapSeconds ∷ F.HoursDiffer ∷ []

-- the fault of a number, in a list that has it
named : ℕ → List Fault → Fault
named n [] = F.FileTooLarge
named n (f ∷ fs) = if eqb (number_of f) n then f else named n fs

named_back : (f : Fault) → named (number_of f) faults ≡ f
unfolding named faults
named_back F.FileTooLarge = refl
named_back F.FileTooShort = refl
named_back F.NoMagic = refl
named_back F.UnknownType = refl
named_back F.UnknownVersion = refl
named_back F.BadName = refl
named_back F.BadNotice = refl
named_back F.NoFirstSize = refl
named_back F.NoSecondSize = refl
named_back F.NoThirdSize = refl
named_back F.WrongLength = refl
named_back F.LongNumber = refl
named_back F.OutOfRange = refl
named_back F.StringPastEnd = refl
named_back F.BadField = refl
named_back F.BadPrecision = refl
named_back F.HitsFull = refl
named_back F.TextFull = refl
named_back F.BadBorder = refl
named_back F.TooFar = refl
named_back F.RepeatedPoint = refl
named_back F.StartsAtZero = refl
named_back F.BadPieces = refl
named_back F.OutputFull = refl
named_back F.BadYards = refl
named_back F.BadText = refl
named_back F.UnknownForm = refl
named_back F.FileFull = refl
named_back F.NoYard = refl
named_back F.NoValue = refl
named_back F.Incomplete = refl
named_back F.NothingLeft = refl
named_back F.BadFixes = refl
named_back F.BadTable = refl
named_back F.IndexFull = refl
named_back F.OtherIndex = refl
named_back F.TzifMagic = refl
named_back F.TzifVersion = refl
named_back F.TzifHeader = refl
named_back F.TzifUts = refl
named_back F.TzifStandards = refl
named_back F.TzifTypes = refl
named_back F.TzifCharacters = refl
named_back F.TzifBlock = refl
named_back F.TzifTime = refl
named_back F.TzifType = refl
named_back F.TzifOffset = refl
named_back F.TzifDaylight = refl
named_back F.TzifIndex = refl
named_back F.TzifDesignation = refl
named_back F.TzifOccurrence = refl
named_back F.TzifCorrection = refl
named_back F.TzifStandard = refl
named_back F.TzifUt = refl
named_back F.TzifFooter = refl
named_back F.TzifRest = refl
named_back F.TzifString = refl
named_back F.YearOutside = refl
named_back F.EntryFails = refl
named_back F.BorderFails = refl
named_back F.StringOutside = refl
named_back F.NothingFollows = refl
named_back F.NotRequest = refl
named_back F.NoFix = refl
named_back F.BadChecksum = refl
named_back F.OtherSentence = refl
named_back F.NoPlace = refl
named_back F.NotWhole = refl
named_back F.NoZone = refl
named_back F.NoNames = refl
named_back F.NoFile = refl
named_back F.DamagedBundle = refl
named_back F.UnknownHour = refl
named_back F.LeapSeconds = refl
named_back F.HoursDiffer = refl

pub one_fault : (f g : Fault) → number_of f ≡ number_of g → f ≡ g
one_fault f g e = sym (named_back f) ∙ ap (λ (n : ℕ). named n faults) e ∙ named_back g
