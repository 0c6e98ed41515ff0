-- The words for each cause, and the line for a refusal. Assumes nothing.
use Rattle.std.specs.Prelude.{◌++◌, codes}
use Rattle.std.specs.Fmt.{decimal}
use Rattle.rules.specs.Orders.{Bytes}
use Rattle.rules.specs.Causes.{number}
use Rattle.causes.specs.declared.cause.Cause.{Cause}
use Rattle.causes.specs.declared.cause.Cause.TheVariants.{TooLong, BadByte, WrongShape, BadPath, BadVersion, ModuleLine, RowTooMany, Missing, DamagedBuffer, TooManyToList, SliceTooShort, TooManyModuleVersions, TableFull, NothingToChange}
use Rattle.causes.specs.declared.refusal.Refusal.{Refusal}
use Rattle.causes.specs.Told.{cause_of}

abbrev pub wording : Cause → Bytes
wording TooLong = codes "a text or buffer too long"
wording BadByte = codes "a byte that no manifest may hold"
wording WrongShape = codes "a line of a wrong shape"
wording BadPath = codes "a bad path"
wording BadVersion = codes "a bad version"
wording ModuleLine = codes "a second module line, or none"
wording RowTooMany = codes "a row too many"
wording Missing = codes "no such manifest"
wording DamagedBuffer = codes "a damaged buffer"
wording TooManyToList = codes "too many versions to list"
wording SliceTooShort = codes "a slice too short"
wording TooManyModuleVersions = codes "too many module versions"
wording TableFull = codes "a full table"
wording NothingToChange = codes "nothing to change"

-- behind a space
abbrev parted : Bytes → Bytes
parted bs = codes " " ++ bs

-- the number of the cause, the three places and the cause in words
abbrev pub refusal_line : Refusal → Bytes
refusal_line r =
    codes "refused "
    ++ (decimal (number (cause_of r.cause)) ++ parted (decimal r.place ++ parted (decimal r.depth ++ parted (decimal r.sheet_place ++ parted (wording r.cause)))))
