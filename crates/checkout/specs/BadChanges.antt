-- The first bad change, which no tree of the manifest has. The next file has position 0. The made files follow from
-- position 1 on, and after them the changed links. Four rounds look for a bad change, each over all changes: the first
-- at what a change says by itself, the others at what all links say together. (This project's own.)
use Rattle.std.specs.Prelude.{◌≡◌, ℕ, ◌+◌, ◌<◌, ◌⊎◌, ◌==◌, ◌&&◌, ◌||◌, Bool, true, false, not, nat_lt, List, [], ◌∷◌, ◌++◌, length, slice_get, Option, Some, None, is_some, if◌then◌else◌}
use Rattle.std.specs.List.{filter, filter_map, find, list_any}
use Rattle.std.specs.Option.{option_and_then, option_map, option_or}
use Rattle.std.specs.Ordering.{is_eq, is_lt}
use Rattle.eden_base.specs.Limits.{end_of_files}
use Rattle.eden_base.specs.Kinds.{kind_made}
use Rattle.eden_base.specs.declared.attr.Kind.{Kind}
use Rattle.eden_base.specs.declared.attr.Kind.TheVariants.{Dir}
use Rattle.eden_base.specs.declared.number.FileId.{FileId}
use Rattle.checkout.specs.declared.changes.Changes.{Changes}
use Rattle.manifest.specs.declared.link_change.LinkChange.{LinkChange}
use Rattle.checkout.specs.declared.changes.Made.{Made}
use Rattle.checkout.specs.Changes.{place_of}
use Rattle.manifest.specs.Manifest.{Line, Manifest, line_of}
use Rattle.manifest.specs.Tree.{is_dir, link_cmp}

-- the id of the last file of a manifest
abbrev pub last_file : Manifest → ℕ
last_file m = length m.lines + 1

-- a link: its directory and name, and the file that it gives
abbrev pub Link : Type 0
Link = (ℕ × List ℕ) × FileId

-- the links of a manifest's lines. The file of the first line has this id, and each next line's file the next id
abbrev pub lines_links : ℕ → List Line → List Link
lines_links id [] = []
lines_links id (line ∷ lines) = ((line.dir.0, line.name), record { 0 = id }) ∷ lines_links (id + 1) lines

-- whether two places are the same
abbrev pub is_at : ℕ × List ℕ → ℕ × List ℕ → Bool
is_at place other = is_eq (link_cmp place other)

-- the file that a link at this place gives, or None if no link stands there
abbrev pub file_in : List Link → ℕ × List ℕ → Option FileId
file_in links place = option_map (λ (link : Link). link.1) (find (λ (link : Link). is_at place link.0) links)

-- the file that the manifest has at the place of a changed link, or None
abbrev pub manifest_target : Manifest → LinkChange → Option FileId
manifest_target m change = file_in (lines_links 2 m.lines) (place_of change)

-- the link that a change gives, or None if the change has no target
abbrev pub given : LinkChange → Option Link
given change = option_map (λ (file : FileId). (place_of change, file)) change.target

-- all links after all changes: the manifest's at places where nothing was changed, and those that the changes give
abbrev pub changed_links : Manifest → Changes → List Link
changed_links m c =
    filter (λ (link : Link). not (list_any (λ change. is_at link.0 (place_of change)) c.links)) (lines_links 2 m.lines)
    ++ filter_map given c.links

-- the kind of a file: of the root, of a file of the manifest, or of a made file. None for any other id
abbrev pub kind_with : Manifest → List Made → FileId → Option Kind
kind_with m made file =
    if file.0 == 1 then Some Dir
    else option_or (option_map (λ (line : Line). line.file.kind) (line_of m.lines file))
    (option_map (λ (x : Made). kind_made x.kind) (find (λ (x : Made). x.file.0 == file.0) made))

-- whether some link gives the file
abbrev pub is_given : List Link → FileId → Bool
is_given links file = list_any (λ (link : Link). link.1.0 == file.0) links

-- whether some link stands in the directory
abbrev pub has_names : List Link → FileId → Bool
has_names links dir = list_any (λ (link : Link). link.0.0 == dir.0) links

-- the file to which the names lead, one after another, from a directory down; None if a name gives no file
abbrev pub file_below : List Link → FileId → List (List ℕ) → Option FileId
file_below links dir [] = Some dir
file_below links dir (name ∷ names) =
    option_and_then (λ (child : FileId). file_below links child names) (file_in links (dir.0, name))

-- whether the next file is bad: its id is not above that of the manifest's last file, or is above `end_of_files`
abbrev pub is_bad_next : Manifest → FileId → Bool
is_bad_next m next = not (nat_lt (last_file m) next.0) || nat_lt end_of_files next.0

-- whether the id of a made file is above that of the made file before it, if there is one
abbrev pub rises : Option Made → Made → Bool
rises None made = true
rises (Some before) made = nat_lt before.file.0 made.file.0

-- whether a made file is bad: its id does not rise, is not above the manifest's last file, or is not below the next
-- file
abbrev pub is_bad_made : Manifest → FileId → Option Made → Made → Bool
is_bad_made m next before made =
    not (rises before made) || not (nat_lt (last_file m) made.file.0) || not (nat_lt made.file.0 next.0)

-- whether the place of a change comes after the place of the change before it, if there is one
abbrev pub is_behind : Option LinkChange → LinkChange → Bool
is_behind None change = true
is_behind (Some before) change = is_lt (link_cmp (place_of before) (place_of change))

-- whether a link may have this target: a file of the manifest or a made one, but not the root; or None
abbrev pub is_target : Manifest → List Made → Option FileId → Bool
is_target m made None = true
is_target m made (Some file) = is_some (kind_with m made file) && not (file.0 == 1)

-- whether both targets are the same file, or both are None
abbrev pub gives_same : Option FileId → Option FileId → Bool
gives_same None None = true
gives_same (Some a) (Some b) = a.0 == b.0
gives_same a b = false

-- whether a changed link is bad: its place does not come after that of the change before it, or its `dir` is no
-- directory. It is also bad if its target is not allowed, or is what the manifest has at this place
abbrev pub is_bad_link : Manifest → List Made → Option LinkChange → LinkChange → Bool
is_bad_link m made before change =
    not (is_behind before change)
    || not (is_dir (kind_with m made change.dir))
    || not (is_target m made change.target)
    || gives_same change.target (manifest_target m change)

-- the position of the first element that is bad beside the element before it, or None. `position` is that of the list's
-- first element, and `before` is the element before the list
abbrev pub first_bad : {X : Type 0} → (Option X → X → Bool) → ℕ → Option X → List X → Option ℕ
first_bad bad position before [] = None
first_bad bad position before (x ∷ xs) = if bad before x then Some position else first_bad bad (position + 1) (Some x) xs

-- the position of the first changed link, after the next file and the made files
abbrev pub first_link : Changes → ℕ
first_link c = length c.made + 1

-- the first round of checks: the position of the first change that is bad by itself, or None
abbrev pub bad_itself : Manifest → Changes → Option ℕ
bad_itself m c =
    if is_bad_next m c.next_file then Some 0
    else option_or (first_bad (is_bad_made m c.next_file) 1 None c.made)
    (first_bad (is_bad_link m c.made) (first_link c) None c.links)

-- the position of the first changed link of which a test holds, or None
abbrev pub first_link_where : (LinkChange → Bool) → Changes → Option ℕ
first_link_where test c = first_bad (λ _ change. test change) (first_link c) None c.links

-- whether there is a file and the test holds of this file
abbrev pub file_does : (FileId → Bool) → Option FileId → Bool
file_does test None = false
file_does test (Some file) = test file

-- whether a link at another place gives the target of a changed link
abbrev pub has_other_link : List Link → LinkChange → Bool
has_other_link links change =
    file_does (λ file. list_any (λ (link : Link). link.1.0 == file.0 && not (is_at (place_of change) link.0)) links)
    change.target

-- the second round of checks: the position of the first changed link whose target another link gives too, or None
abbrev pub bad_by_other : Manifest → Changes → Option ℕ
bad_by_other m c = first_link_where (has_other_link (changed_links m c)) c

-- what the third round looks for: the target of a changed link is the link's own directory, or stands above this
-- directory
abbrev pub IsAboveItself : List Link → LinkChange → Type 0
IsAboveItself links change =
    (file : FileId) × (names : List (List ℕ)) × (change.target ≡ Some file)
    × (file_below links file names ≡ Some change.dir)

-- whether a directory is cut off: it is not the root, no link gives it, and some link stands in it
abbrev pub is_cut_off : List Link → FileId → Bool
is_cut_off links dir = not (dir.0 == 1) && not (is_given links dir) && has_names links dir

-- the fourth round of checks: the position of the first changed link whose directory is cut off, or at whose place the
-- manifest has a file that is cut off; None if there is no such link
abbrev pub bad_by_cut : Manifest → Changes → Option ℕ
bad_by_cut m c =
    let cut = is_cut_off (changed_links m c) in
    first_link_where (λ change. cut change.dir || file_does cut (manifest_target m change)) c

-- the third and the fourth round of checks: `bad` is the position of the first changed link whose target is its own
-- directory or above it. If there is no such link, `bad` is what the fourth round finds
abbrev pub IsBadAround : Manifest → Changes → Option ℕ → Type 0
IsBadAround m c bad =
    ((i : ℕ) × (change : LinkChange) × (bad ≡ Some (first_link c + i)) × (slice_get c.links i ≡ Some change)
    × IsAboveItself (changed_links m c) change
    × ((j : ℕ) (other : LinkChange) → j < i → slice_get c.links j ≡ Some other →
    IsAboveItself (changed_links m c) other → ⊥))
    ⊎ ((bad ≡ bad_by_cut m c)
    × ((j : ℕ) (other : LinkChange) → slice_get c.links j ≡ Some other →
    IsAboveItself (changed_links m c) other → ⊥))

-- `bad` is the position that an earlier round found; if that round found none, `Later` holds of `bad`
abbrev pub Else : Option ℕ → (Option ℕ → Type 0) → Option ℕ → Type 0
Else (Some position) Later bad = bad ≡ Some position
Else None Later bad = Later bad

-- `bad` is the position of the bad change that the four rounds find first, or None if they find none
abbrev pub IsBadChange : Manifest → Changes → Option ℕ → Type 0
IsBadChange m c bad = Else (bad_itself m c) (Else (bad_by_other m c) (IsBadAround m c)) bad
