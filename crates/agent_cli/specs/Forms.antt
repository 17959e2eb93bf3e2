-- The values that the texts of arguments show.
use Rattle.std.specs.Prelude.{◌≡◌, ℕ, List, Option, Some, None, IsSomeAnd, if◌then◌else◌, option_map}
use Rattle.std.specs.Option.{option_map_or}
use Rattle.std.specs.Str.Parse.{digits_value, without_leading_plus}
use Rattle.clap.specs.Words.{Row, Text, one_of}
use Rattle.clap.specs.ValueTests.{is_unsigned_in}
use Rattle.schedule.specs.Schedule.{IsDay, IsMoment}
use Rattle.schedule.specs.Text.{day_text, moment_text}
use Rattle.deposit_name.specs.declared.kinds.Kind.{Kind}
use Rattle.deposit_name.specs.Identifiers.{IsDepositId, IsReference, IsTld}
use Rattle.deposit_name.specs.Name.{kind_text}
use Rattle.desk.specs.Grounds.{ground_text}
use Rattle.desk.specs.declared.grounds.Ground.{Ground}

abbrev pub ShowsTld : Text → List ℕ → Type 0
ShowsTld text tld = (tld ≡ text) × IsTld tld

-- `YYYY-MM-DD`
abbrev pub ShowsDay : Text → ℕ → Type 0
ShowsDay text d = IsDay d × (text ≡ day_text d)

-- `YYYY-MM-DDTHH:MM:SSZ`
abbrev pub ShowsMoment : Text → ℕ → Type 0
ShowsMoment text s = IsMoment s × (text ≡ moment_text s)

-- `full`, `diff` or `incr`
abbrev pub ShowsKind : Text → Kind → Type 0
ShowsKind text kind = text ≡ kind_text kind

abbrev pub ShowsId : Text → List ℕ → Type 0
ShowsId text id = (id ≡ text) × IsDepositId id

abbrev pub ShowsReference : Text → List ℕ → Type 0
ShowsReference text reference = (reference ≡ text) × IsReference reference

-- such as `operator`
abbrev pub ShowsGround : Text → Ground → Type 0
ShowsGround text reason = text ≡ ground_text reason

-- the value of a text that may be left out
abbrev pub ShowsIfGiven : {X : Type 0} → (Text → X → Type 0) → Option Text → Option X → Type 0
ShowsIfGiven Shows None value = value ≡ None
ShowsIfGiven Shows (Some text) value = IsSomeAnd value (λ x. Shows text x)

-- the number up to a greatest one that a text writes in decimal digits
abbrev pub count_in_text : ℕ → Text → ℕ
count_in_text most text =
    if is_unsigned_in 0 most text then digits_value 10 (without_leading_plus text) else 0

-- the number that is the value of an argument, whose bounds clap has tested
abbrev pub count_of : Text → ℕ → List Row → ℕ
count_of id most rows = option_map_or (count_in_text most) (one_of id rows) 0

-- the same of an argument that may be left out
abbrev pub count_if_given : Text → ℕ → List Row → Option ℕ
count_if_given id most rows = option_map (count_in_text most) (one_of id rows)
