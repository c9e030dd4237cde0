-- The parts in which a text is sent if it isn't sent whole. (This project's own.)
use Rattle.std.specs.Prelude.{◌≡◌, ◌<◌, ◌≤◌, ℕ, ◌+◌, ◌*◌, List, [], ◌∷◌, length}
use Rattle.std.specs.List.{concat}
use Rattle.map_image.specs.ImageText.{IsImageText}
use Rattle.map_image.specs.Versions.{part_len, most_parts, IsNoLonger}
use Rattle.map_image.specs.declared.image.Image.{Image}

-- each part has 4,096 bytes but the last, which has 1 to 4,096; there is a last one
abbrev pub AreCut : List (List ℕ) → Type 0
AreCut [] = ⊥
AreCut (last ∷ []) = (1 ≤ length last) × (length last ≤ part_len)
AreCut (part ∷ next ∷ rest) = (length part ≡ part_len) × AreCut (next ∷ rest)

-- these are the parts of the text, in order
pub record AreParts (text : List ℕ) (parts : List (List ℕ)) : Type 0 where
  pub joined : concat parts ≡ text
  pub cut : AreCut parts

-- ---- what holds of parts

-- this count of full parts is enough for a text of this length, and one less is not
pub record CountsParts (len count : ℕ) : Type 0 where
  pub hold : len ≤ count * part_len
  pub least : count * part_len < len + part_len

-- the text of an image isn't empty, so it has parts
abbrev pub TextsAreSome : Type 0
TextsAreSome = (image : Image) (version : ℕ) (text : List ℕ) → IsImageText image version text → 1 ≤ length text

-- a text is cut into parts in one way only
abbrev pub HasOneCutting : Type 0
HasOneCutting =
    (text : List ℕ) (parts others : List (List ℕ)) → AreParts text parts → AreParts text others → parts ≡ others

-- a text has as many parts as its length says
abbrev pub PartsAreCounted : Type 0
PartsAreCounted =
    (text : List ℕ) (parts : List (List ℕ)) → AreParts text parts → CountsParts (length text) (length parts)

-- a text that is no longer than the longest of its version has at most 65,536 parts
abbrev pub PartsAreFew : Type 0
PartsAreFew =
    (version : ℕ) (text : List ℕ) (parts : List (List ℕ)) → IsNoLonger version text → AreParts text parts →
    length parts ≤ most_parts
