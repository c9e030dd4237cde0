-- What a wait and a change say of the calls that they make. (This project's own.)
use Rattle.std.specs.Prelude.{◌≡◌, ⊤, Option, Some, None}
use Rattle.std.specs.Duration.{as_nanos}
use denote.Ref.{MutBor}
use Rattle.std.specs.declared.time.Duration.{Duration}
use Rattle.monitor.specs.declared.look.Look.{Look}
use Rattle.monitor.specs.declared.look.Look.TheVariants.{Found, Again}

-- the look found this, or it found nothing and a minute may pass until the next one
abbrev pub IsLookOf : {U : Type 0} → Option U → Look U → Type 0
IsLookOf (Some found) look = look ≡ Found found
IsLookOf None look = (longest : Duration) × (look ≡ Again longest) × (as_nanos longest ≡ 60_000_000_000)

-- this holds of what the look found, if it found something
abbrev pub IfFound : {U : Type 0} → Look U → (U → Type 0) → Type 0
IfFound (Found found) Holds = Holds found
IfFound (Again longest) Holds = ⊤

module _ {F T U : Type 0} (step : F → MutBor T → Look U → MutBor T → F → Type 0) where
  -- a call of the look, in some state, found nothing, asked for this longest sleep and left this value
  abbrev pub LooksInVain : T → Duration → Type 0
  LooksInVain value longest =
      (from : F) × (then : F) × (old : MutBor T) × (new : MutBor T) × step from old (Again longest) new then × (new.now ≡ value)

  -- a call of the look, in some state, found this; where calls leave the look as it was, in the state `look`
  abbrev pub IsFound : Type 0 → F → U → Type 0
  IsFound stays look found =
      (from : F) × (then : F) × (old : MutBor T) × (new : MutBor T) × step from old (Found found) new then × (stays → from ≡ look)
