-- What stands against an image's entries is why it is not restored, once its changes made a tree.
use Rattle.std.proofs.Common.{◌≡◌, ℕ, List, Option, Some, None, Ok, Err, IfOk, refl, subst}
use Rattle.std.specs.Prelude.{Result}
use Rattle.eden_base.specs.declared.memory.NoMemory.{NoMemory as Lack}
use Rattle.checkout.specs.BadChanges.{bad_by_other, bad_itself, Else, IsBadAround, IsBadChange}
use Rattle.checkout.specs.declared.changes.Changes.{Changes}
use Rattle.entry_table.specs.declared.kept.Kept.{Kept}
use Rattle.manifest.specs.Manifest.{Manifest}
use Rattle.manifest.specs.Tree.{Tree}
use Rattle.map_codec.specs.Raising.{entries_told, fault_in, tree_told, AreRaisable, IsRaiseRefusal, StandsAgainst, TellsATree}
use Rattle.map_codec.specs.declared.fault.RaiseFault.{RaiseFault}
use Rattle.map_codec.specs.declared.fault.RaiseFault.TheVariants.{OtherManifest, BadChange, NoParent, NoLink, TwoNumbers, NumberTooHigh, NoMemory}
use Rattle.map_image.specs.declared.image.Image.{Image}

-- changes without a bad one have none that is bad by itself
good_itself : (m : Manifest) (changes : Changes) → IsBadChange m changes None → bad_itself m changes ≡ None
good_itself m changes h =
    elim (bad_itself m changes) as (λ o. Else o (Else (bad_by_other m changes) (IsBadAround m changes)) None → o ≡ None) [
      | None ↦ λ _. refl
      | Some place ↦ λ e. let no : ⊥ = cc in absurd no
    ] h

same_fault : {X : Type 0} (one other : RaiseFault) → (the_error : Result X RaiseFault) → the_error ≡ Err one → the_error ≡ Err other → one ≡ other
same_fault one other told e f = cc

pub refusal-told : {X : Type 0} (m : Manifest) (image : Image) (found : Result (Result X RaiseFault) Lack) (fault : RaiseFault) → TellsATree m image →
    IfOk found (λ told. StandsAgainst (tree_told m image) image.entries image.next_number (fault_in told)) → entries_told found ≡ Err fault → IsRaiseRefusal m image fault
refusal-told m image (Ok (Ok files)) fault tells against e = let no : ⊥ = cc in absurd no
refusal-told m image (Ok (Err found)) fault tells against e = subst (IsRaiseRefusal m image) (same_fault found fault (Err found) refl e) (refusal found against) where
  refusal : (f : RaiseFault) → StandsAgainst (tree_told m image) image.entries image.next_number (Some f) → IsRaiseRefusal m image f
  refusal OtherManifest a = absurd a
  refusal (BadChange place) a = absurd a
  refusal NoParent a = (tells, a)
  refusal NoLink a = (tells, a)
  refusal TwoNumbers a = (tells, a)
  refusal NumberTooHigh a = (tells, a)
  refusal NoMemory a = absurd a
refusal-told m image (Err lack) fault tells against e = subst (IsRaiseRefusal m image) (same_fault NoMemory fault (Err NoMemory) refl e) (tells.name, good_itself m image.changes tells.changes)

-- files that were told are those of entries that may be served
pub files-told : {X : Type 0} (tree : Tree) (es : List Kept) (next : ℕ) (AreFiles : X → Type 0) (found : Result (Result X RaiseFault) Lack) (files : X) →
    IfOk found (λ told. StandsAgainst tree es next (fault_in told)) → IfOk found (λ told. IfOk told AreFiles) → entries_told found ≡ Ok files → AreRaisable tree es next × AreFiles files
files-told tree es next AreFiles (Ok (Ok found)) files against are e = let same : found ≡ files = cc in (against, subst AreFiles same are)
files-told tree es next AreFiles (Ok (Err fault)) files against are e = let no : ⊥ = cc in absurd no
files-told tree es next AreFiles (Err lack) files against are e = let no : ⊥ = cc in absurd no
