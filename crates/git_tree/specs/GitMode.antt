-- What the mode of an entry says, and the file that a checkout makes of it. (git-ls-tree(1) and git-fast-import(1): the
-- modes; a checkout gives a file the permissions 0755 if its owner may execute it, and else 0644.)
use Rattle.std.specs.Prelude.{ℕ, ◌%◌, ◌==◌, ◌&&◌, Bool, not, max, nat_eq, List, length, slice_index, drop, position, codes, Option, Some, None, if◌then◌else◌}
use Rattle.std.specs.Cmp.Lexicographic.{pointwise}
use Rattle.std.specs.List.{list_all}
use Rattle.std.specs.Option.{option_and_then}
use Rattle.std.proofs.Common.{lit≤}
use Rattle.eden_base.specs.declared.attr.Kind.TheVariants.{Link as LinkKind, File as RegularFile}
use Rattle.eden_base.specs.declared.attr.Perm.{Perm}
use Rattle.manifest.specs.Manifest.{File}
use Rattle.manifest.specs.Text.{after, is_octal, size_of}
use Rattle.manifest.specs.Tree.{link_perm, root_file}
use Rattle.git_tree.specs.declared.mode.GitMode.{GitMode}
use Rattle.git_tree.specs.declared.mode.GitMode.TheVariants.{Tree, Submodule, Link, Executable, Regular}

-- the text is this word
abbrev pub is_word : List ℕ → List ℕ → Bool
is_word word text = pointwise nat_eq text word

-- what a blob is whose rights are these three octal digits; the first is the owner's, and odd where he may execute the
-- file, as its byte is
abbrev pub rights_mode : List ℕ → Option GitMode
rights_mode rights =
    if not (length rights == 3 && list_all is_octal rights) then None
    else if slice_index rights 0 % 2 == 1 then Some Executable
    else Some Regular

-- what a blob of this mode is, where the mode is that of a regular file: `100` and its rights
abbrev pub file_mode : List ℕ → Option GitMode
file_mode mode = option_and_then rights_mode (after (codes "100") mode)

-- what an entry of this mode is, whose object has this type
abbrev pub mode_of : List ℕ → List ℕ → Option GitMode
mode_of mode object_type =
    if is_word (codes "040000") mode && is_word (codes "tree") object_type then Some Tree
    else if is_word (codes "160000") mode && is_word (codes "commit") object_type then Some Submodule
    else if is_word (codes "120000") mode && is_word (codes "blob") object_type then Some Link
    else if is_word (codes "blob") object_type then file_mode mode
    else None

-- the permissions of a file that its owner may execute: 0755
abbrev pub executable_perm : Perm
executable_perm = record { bits = 493; in_range = lit≤ tt }

-- the permissions of any other file: 0644
abbrev pub regular_perm : Perm
regular_perm = record { bits = 420; in_range = lit≤ tt }

-- the file of an entry with a blob of this size; a submodule is an empty directory
abbrev pub file_of : GitMode → ℕ → File
file_of Tree size = root_file
file_of Submodule size = root_file
file_of Link size = record { kind = LinkKind; perm = link_perm; size = size }
file_of Executable size = record { kind = RegularFile; perm = executable_perm; size = size }
file_of Regular size = record { kind = RegularFile; perm = regular_perm; size = size }

-- the text of a field to which spaces were added on its left, up to seven characters
abbrev pub unpadded : List ℕ → Option (List ℕ)
unpadded field =
    option_and_then (λ i. if length field == max (length (drop i field)) 7 then Some (drop i field) else None)
    (position (λ b. not (b == 32)) field)

-- the size of what is no blob, which is written `-`
abbrev pub no_size : List ℕ → Option ℕ
no_size text = if is_word (codes "-") text then Some 0 else None

-- the size that a text says of an entry
abbrev pub size_text : GitMode → List ℕ → Option ℕ
size_text Tree text = no_size text
size_text Submodule text = no_size text
size_text Link text = size_of text
size_text Executable text = size_of text
size_text Regular text = size_of text

-- the size that the field of a record says of an entry
abbrev pub size_in : GitMode → List ℕ → Option ℕ
size_in mode field = option_and_then (size_text mode) (unpadded field)
