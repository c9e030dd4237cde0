-- The versions of an image: how the texts of one version differ from those of another, a row for each. (This project's
-- own.)
use Rattle.std.specs.Prelude.{◌≡◌, ◌<◌, ◌≤◌, ℕ, ◌*◌, ◌-◌, ◌^◌, ◌==◌, Bool, true, false, List, length, Option, Some, None, if◌then◌else◌}
use Rattle.std.specs.Int.{Width, w32, w64}
use Rattle.eden_base.specs.Limits.{greatest_count as greatest_held}
use Rattle.map_image.specs.declared.version.CountWidth.{CountWidth}
use Rattle.map_image.specs.declared.version.CountWidth.TheVariants.{Four, Eight}
use Rattle.map_image.specs.declared.version.NamedBy.{NamedBy}
use Rattle.map_image.specs.declared.version.NamedBy.TheVariants.{Commit, Digest}
use Rattle.map_image.specs.declared.version.Sending.TheVariants.{Parts, Whole}
use Rattle.map_image.specs.declared.version.VersionForm.{VersionForm}

-- ---- how many bytes a count takes

abbrev pub width_of : CountWidth → Width
width_of Four = w32
width_of Eight = w64

-- the first number that does not fit in such a count
abbrev pub limit_of : CountWidth → ℕ
limit_of Four = 2 ^ 32
limit_of Eight = 2 ^ 64

-- ---- the parts of a text that isn't sent whole

-- the length of each part but the last
abbrev pub part_len : ℕ
part_len = 4096

-- the greatest count of parts of a text
abbrev pub most_parts : ℕ
most_parts = 65536

-- ---- the versions

-- the form of version 1: a manifest that is named by its commit, counts of four bytes, and a text that is sent in one
-- message
abbrev pub first_form : VersionForm
first_form = record {
  named_by = Commit;
  count_width = Four;
  greatest_count = 2 ^ 32 - 1;
  longest = 65000;
  sending = Whole;
}

-- the form of version 2: the same counts, and a longer text, which is sent in parts
abbrev pub second_form : VersionForm
second_form = record first_form { longest = 268435456; sending = Parts }

-- the form of version 3: counts of eight bytes, each of which the kernel may hold; the rest is as in version 2
abbrev pub third_form : VersionForm
third_form = record second_form { count_width = Eight; greatest_count = greatest_held }

-- the form of version 4: a manifest that is named by the digest of its text; the rest is as in version 3
abbrev pub fourth_form : VersionForm
fourth_form = record third_form { named_by = Digest }

-- the form of a version, if there is such a version: a row for each
abbrev pub form_of : ℕ → Option VersionForm
form_of version =
    if version == 1 then Some first_form
    else if version == 2 then Some second_form
    else if version == 3 then Some third_form
    else if version == 4 then Some fourth_form
    else None

-- by what images of this form name their manifest; the commit where there is no form
abbrev pub namer_of : Option VersionForm → NamedBy
namer_of (Some form) = form.named_by
namer_of None = Commit

-- by what images of a version name their manifest
abbrev pub named_by : ℕ → NamedBy
named_by version = namer_of (form_of version)

-- whether an image that names its manifest so is one of a form that names it like this
abbrev pub is_named_so : NamedBy → NamedBy → Bool
is_named_so Commit Commit = true
is_named_so Digest Digest = true
is_named_so by other = false

-- ---- the same in each version

-- the width of a list's length
abbrev pub length_width : Width
length_width = width_of Four

-- the first length that does not fit this width
abbrev pub length_limit : ℕ
length_limit = limit_of Four

-- ---- what holds of each row

-- a count fits its field, and the kernel may hold it; a header with three empty lists is not too long; a list of a text
-- can be counted; and a text has few parts
pub record IsForm (form : VersionForm) : Type 0 where
  pub count_has_room : form.greatest_count < limit_of form.count_width
  pub count_is_held : form.greatest_count ≤ greatest_held
  pub empty_has_room : 62 ≤ form.longest
  pub lists_are_few : form.longest < length_limit
  pub parts_are_few : form.longest ≤ most_parts * part_len

-- there is this version, and the bytes are no longer than its longest text
pub record IsNoLonger (version : ℕ) (bytes : List ℕ) : Type 0 where
  pub form : VersionForm
  pub known : form_of version ≡ Some form
  pub at_most : length bytes ≤ form.longest
