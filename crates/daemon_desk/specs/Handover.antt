-- What one daemon hands to the next, as the frames that it sends, in whatever pieces their bytes come. (This project's
-- own.)
use Rattle.std.specs.Prelude.{◌≡◌, ◌⊎◌, ℕ, true, List, [], ◌∷◌, ◌++◌, map, Some, IsSome}
use Rattle.std.specs.List.{AllByRecursion, concat}
use Rattle.manifest.specs.Manifest.{IsManifest}
use Rattle.manifest.specs.Tree.{IsTree}
use Rattle.fuse_ops.specs.Served.{ServedState, plain}
use Rattle.fuse_ops.specs.Soundness.{IsSound}
use Rattle.map_image.specs.Parts.{AreParts}
use Rattle.map_image.specs.Versions.{IsNoLonger}
use Rattle.map_codec.specs.Handover.{IsHandedOver, IsTakenOver, CannotBeTakenOver}
use Rattle.takeover_core.specs.Phases.{goes_whole}
use Rattle.takeover_core.specs.declared.message.Message.TheVariants.{Data}
use Rattle.frames.specs.declared.frame.Frame.{Frame}
use Rattle.frames.specs.declared.frame.Frame.TheVariants.{Takeover}
use Rattle.frames.specs.FrameText.{Fits, frame_text}
use Rattle.frames.specs.Laws.{AreFirst}
use Rattle.frames.specs.Reading.{NotYet, said}
use Rattle.daemon.specs.Talking.{in_parts}

-- ---- frames

-- the frame that carries all bytes of the data to the next daemon
abbrev pub data_frame : ℕ → ℕ → List ℕ → Frame
data_frame session generation bytes = Takeover (Data session generation bytes)

-- the frames that carry the parts of the data to the next daemon
abbrev pub part_frames : ℕ → ℕ → List (List ℕ) → List Frame
part_frames session generation parts = map Takeover (in_parts session generation parts)

-- frames of a session at a generation carry these bytes: one frame carries all of them, or each frame a part
abbrev pub Carry : ℕ → ℕ → List Frame → List ℕ → Type 0
Carry session generation frames bytes =
    (frames ≡ data_frame session generation bytes ∷ [])
    ⊎ ((parts : List (List ℕ)) × (frames ≡ part_frames session generation parts) × (concat parts ≡ bytes))

-- ---- what has frames

-- an image that is handed over in a version is at most as long as the longest text of the version
abbrev pub HandedIsShort : Type 0
HandedIsShort =
    (made : ServedState) (generation version : ℕ) (bytes : List ℕ) → IsHandedOver made generation version bytes →
    IsNoLonger version bytes

-- if images of a version go whole, the frame of each such image has a text
abbrev pub HandedHasFrame : Type 0
HandedHasFrame =
    (made : ServedState) (session generation version : ℕ) (bytes : List ℕ) → goes_whole version ≡ true →
    IsHandedOver made generation version bytes → IsSome (frame_text (data_frame session generation bytes))

-- the frame of each part of any image has a text
abbrev pub PartsHaveFrames : Type 0
PartsHaveFrames =
    (session generation : ℕ) (bytes : List ℕ) (parts : List (List ℕ)) → AreParts bytes parts →
    AllByRecursion (λ frame. IsSome (frame_text frame)) (part_frames session generation parts)

-- ---- pieces

-- A reader that has these bytes unread is fed pieces, one after another. After each piece some of the frames that its
-- bytes begin with are taken off, and at the end all that are there. These are the frames taken off, and this is the
-- rest.
abbrev pub IsReadInPieces : List ℕ → List (List ℕ) → List Frame → List ℕ → Type 0
IsReadInPieces unread [] frames rest = AreFirst unread frames rest × (said rest ≡ NotYet)
IsReadInPieces unread (piece ∷ pieces) frames rest =
    (taken : List Frame) × (others : List Frame) × (left : List ℕ) × AreFirst (unread ++ piece) taken left
    × IsReadInPieces left pieces others rest × (frames ≡ taken ++ others)

-- these bytes are the texts of the frames, one after the other, and the numbers in the frames fit in their fields
abbrev pub AreTexts : List Frame → List ℕ → Type 0
AreTexts [] bytes = bytes ≡ []
AreTexts (frame ∷ frames) bytes =
    (text : List ℕ) × (others : List ℕ) × Fits frame × (frame_text frame ≡ Some text) × AreTexts frames others
    × (bytes ≡ text ++ others)

-- if the texts of frames are cut into any pieces, those frames alone are read, and no byte is left
abbrev pub FramesAreRead : Type 0
FramesAreRead =
    (frames read : List Frame) (pieces : List (List ℕ)) (rest : List ℕ) →
    AreTexts frames (concat pieces) → IsReadInPieces [] pieces read rest → (read ≡ frames) × (rest ≡ [])

-- ---- what is read of them

-- These bytes are read of what was handed over: a sound state is handed over in some version, frames carry it, the
-- frames' texts come in pieces, and the frames that are read of the pieces carry these bytes.
pub record IsRead (made : ServedState) (session generation : ℕ) (read : List ℕ) : Type 0 where
  pub version : ℕ
  pub bytes : List ℕ
  pub frames : List Frame
  pub pieces : List (List ℕ)
  pub received : List Frame
  pub rest : List ℕ
  pub sound : IsSound made
  pub tree : IsTree made.tree
  pub is_manifest : IsManifest made.tree.manifest
  pub handed : IsHandedOver made generation version bytes
  pub carry : Carry session generation frames bytes
  pub come : AreTexts frames (concat pieces)
  pub is_read : IsReadInPieces [] pieces received rest
  pub bring : Carry session generation received read

-- what is restored from the bytes that are read, over the same manifest and at any limit, knows the same as what was
-- handed over
abbrev pub ReadKnows : Type 0
ReadKnows =
    (made later : ServedState) (session generation limit : ℕ) (read : List ℕ) →
    IsRead made session generation read → IsTakenOver made.tree.manifest limit generation read later →
    plain later ≡ plain made

-- the bytes that are read can always be taken over
abbrev pub ReadCanBeTaken : Type 0
ReadCanBeTaken =
    (made : ServedState) (session generation : ℕ) (read : List ℕ) →
    IsRead made session generation read → CannotBeTakenOver made.tree.manifest generation read → ⊥
