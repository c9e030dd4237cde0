-- The places of files that are gone, one file after another.
use Rattle.std.proofs.Common.{◌≡◌, ℕ, ◌+◌, ◌-◌, ◌<◌, ◌≤◌, ◌==◌, ◌||◌, Bool, true, false, drop, get_or, if◌then◌else◌, List, [], ◌∷◌, ◌++◌, length, Some, None, is_some, refl, sym, ap, subst, ◌∙◌, arith, eq-eqb}
use Rattle.std.proofs.Math.Bool.{or-true}
use Rattle.std.proofs.lemmas.List.{drop_more}
use Rattle.std.proofs.lemmas.Option.{slice_get-get_or}
use Rattle.std.specs.FinMap.{FinMap, get}
use Rattle.std.specs.List.{AllByRecursion, cons_option, list_any}
use Rattle.eden_base.specs.declared.number.FileId.{FileId}
use Rattle.manifest.specs.declared.link_change.LinkChange.{LinkChange}
use Rattle.checkout.specs.UnlinkedFiles.{UnlinkedFiles, is_gone}
use Rattle.checkout.specs.Listing.{gone_change, gone_changes, HaveLines}
use Rattle.manifest.specs.Manifest.{Line, Manifest}
use Rattle.checkout.specs.Overlay.{is_line}
use Rattle.manifest.specs.Tree.{link_cmp}
use Rattle.manifest.proofs.ListLemmas.{listed_one_more}
use Rattle.checkout.proofs.OverlayLaws.{within_lines}

-- the place of a line that lost its link
abbrev pub without_link : Line → LinkChange
without_link line = record { dir = line.dir; name = line.name; target = None }

module _ (added : FinMap link_cmp FileId) (lines : List Line) where
  module _ (files : List ℕ) (i : ℕ) (within : i < length files) (have : HaveLines lines (drop i files)) where
    abbrev file : ℕ
    file = get_or files i 0

    have_here : HaveLines lines (file ∷ drop (i + 1) files)
    have_here = subst (HaveLines lines) (drop_more files i 0 within) have

    -- the first file that is left has a line
    pub line_within : file - 2 < length lines
    line_within = let h = have_here.0 in omega (arith, h.0, h.1)

    pub have_later : HaveLines lines (drop (i + 1) files)
    have_later = have_here.1

    pub gone_first : (line : Line) → line ≡ get_or lines (file - 2) line → gone_changes added lines (drop i files) ≡ cons_option (gone_change added (Some line)) (gone_changes added lines (drop (i + 1) files))
    gone_first line is =
        ap (gone_changes added lines) (drop_more files i 0 within)
        ∙ ap (λ o. cons_option (gone_change added o) (gone_changes added lines (drop (i + 1) files))) (slice_get-get_or lines (file - 2) line line_within ∙ ap (λ l. Some l) (sym is))

  -- its place is listed where no link was added
  pub listed_place : (line : Line) (links links' rest all : List LinkChange) → is_some (get added (line.dir.0, line.name)) ≡ false → links ++ cons_option (gone_change added (Some line)) rest ≡ all →
      links' ≡ links ++ without_link line ∷ [] → links' ++ rest ≡ all
  listed_place line links links' rest all none so_far pushed =
      listed_one_more links links' rest all (without_link line) (ap (λ (b : Bool). links ++ cons_option (if b then None else Some (without_link line)) rest) (sym none) ∙ so_far) pushed

  pub left_out : (line : Line) (links rest all : List LinkChange) → is_some (get added (line.dir.0, line.name)) ≡ true → links ++ cons_option (gone_change added (Some line)) rest ≡ all → links ++ rest ≡ all
  left_out line links rest all some so_far = ap (λ (b : Bool). links ++ cons_option (if b then None else Some (without_link line)) rest) (sym some) ∙ so_far

-- what holds of each file that is gone holds of all in the list
each_gone : (P : ℕ → Type 0) (files : List ℕ) → ((q : ℕ) → list_any (λ f. q == f) files ≡ true → P q) → AllByRecursion P files
each_gone P [] h = tt
each_gone P (f ∷ fs) h = (
  h f (ap (λ b. b || list_any (λ g. f == g) fs) (eq-eqb f f refl)),
  each_gone P fs (λ q k. h q (ap (λ b. (q == f) || b) k ∙ or-true (q == f))),
)

pub all_gone : (gone : UnlinkedFiles) → AllByRecursion (λ file. is_gone gone file ≡ true) gone.files
all_gone gone = each_gone (λ file. is_gone gone file ≡ true) gone.files (λ q h. h)

pub all_have_lines : (m : Manifest) (gone : UnlinkedFiles) → ((file : FileId) → is_gone gone file.0 ≡ true → is_line m file ≡ true) → HaveLines m.lines gone.files
all_have_lines m gone are_lines = each_gone (λ file. (2 ≤ file) × (file < length m.lines + 2)) gone.files (λ q h. within_lines m (record { 0 = q }) (are_lines (record { 0 = q }) h))
