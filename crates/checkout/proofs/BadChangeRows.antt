-- The first bad change of small values, over a manifest with a directory `src` of two files and a file beside it.
use Rattle.std.proofs.Common.{◌≡◌, ℕ, zero, suc, List, [], ◌∷◌, codes, Option, Some, None, false, ◌==◌, refl, sym, ap, ◌∙◌, inl, inr, arith, slice_get, eq-eqb}
use Rattle.std.specs.List.{AllByRecursion}
use Rattle.std.specs.Option.{option_and_then}
use Rattle.eden_base.specs.declared.attr.Kind.{Kind}
use Rattle.eden_base.specs.declared.attr.Kind.TheVariants.{Dir, File as RegularFile}
use Rattle.eden_base.specs.declared.attr.MadeKind.{MadeKind}
use Rattle.eden_base.specs.declared.attr.MadeKind.TheVariants as made_kind
use Rattle.eden_base.specs.declared.number.FileId.{FileId}
use Rattle.checkout.specs.declared.changes.Changes.{Changes}
use Rattle.manifest.specs.declared.link_change.LinkChange.{LinkChange}
use Rattle.checkout.specs.declared.changes.Made.{Made}
use Rattle.checkout.specs.BadChanges.{Link, bad_by_cut, changed_links, file_below, file_in, IsAboveItself, IsBadAround, IsBadChange}
use Rattle.manifest.specs.Manifest.{Line, Manifest}
use Rattle.manifest.specs.Text.{perm_of}

abbrev pub file : ℕ → FileId
file id = record { 0 = id }

abbrev line : ℕ → List ℕ → Kind → Line
line dir name kind = record { dir = file dir; name = name; file = record { kind = kind; perm = perm_of 493; size = 0 } }

-- a made file
abbrev pub made : ℕ → MadeKind → Made
made id kind = record { file = file id; kind = kind; perm = perm_of 420 }

-- a name that gives a file now
abbrev pub gives : ℕ → List ℕ → ℕ → LinkChange
gives dir name id = record { dir = file dir; name = name; target = Some (file id) }

-- a name that is gone
abbrev pub gone : ℕ → List ℕ → LinkChange
gone dir name = record { dir = file dir; name = name; target = None }

abbrev pub changes : List Made → List LinkChange → ℕ → Changes
changes made links next = record { made = made; links = links; next_file = file next }

-- src is 2, src/a is 3, src/b is 4, README is 5
abbrev pub small : Manifest
small = record {
  commit = [];
  digest = [];
  lines = line 1 (codes "src") Dir ∷ line 2 (codes "a") RegularFile ∷ line 2 (codes "b") RegularFile ∷ line 1 (codes "README") RegularFile ∷ [];
}

-- no target is above its directory, of a link that isn't
pub none_above : (links : List Link) (changes : List LinkChange) → AllByRecursion (λ change. IsAboveItself links change → ⊥) changes →
    (j : ℕ) (other : LinkChange) → slice_get changes j ≡ Some other → IsAboveItself links other → ⊥
none_above links [] all j other h above = absurd (cc)
none_above links (x ∷ xs) all zero other h above = let same : x ≡ other = cc in all.0 (record_of (sym same) above)
  where
    record_of : {a b : LinkChange} → a ≡ b → IsAboveItself links a → IsAboveItself links b
    record_of e w = (w.0, w.1, sym (ap (λ (x : LinkChange). x.target) e) ∙ w.2, w.3 ∙ ap (λ (x : LinkChange). Some x.dir) e)
none_above links (x ∷ xs) all (suc j) other h above = none_above links xs all.1 j other h above

-- what is gone is above nothing
pub gone_is_not : (links : List Link) (dir : ℕ) (name : List ℕ) → IsAboveItself links (gone dir name) → ⊥
gone_is_not links dir name above = let t = above.2 in cc (t)

-- nor is a file in which no name stands, but itself
pub leaf_is_not : (links : List Link) (dir id : ℕ) (name : List ℕ) → ((n : List ℕ) → file_in links (id, n) ≡ None) → (id == dir) ≡ false →
    IsAboveItself links (gives dir name id) → ⊥
leaf_is_not links dir id name leaf other above =
    let t = above.2 in
    let same : file id ≡ above.0 = cc in
    leads above.1 (ap (λ f. file_below links f above.1) same ∙ above.3)
  where
    leads : (names : List (List ℕ)) → file_below links (file id) names ≡ Some (file dir) → ⊥
    leads [] h = let same : file id ≡ file dir = cc in let equal = eq-eqb id dir (ap (λ (f : FileId). f.0) same) in cc (equal, other)
    leads (n ∷ names) h = let none = ap (option_and_then (λ (f : FileId). file_below links f names)) (leaf n) in cc (none, h)

module _ (c : Changes) where
  -- a value in which no target is above its directory is bad where something is cut off
  pub else_cut : (bad : Option ℕ) → bad ≡ bad_by_cut small c → AllByRecursion (λ change. IsAboveItself (changed_links small c) change → ⊥) c.links → IsBadAround small c bad
  else_cut bad is all = inr (is, none_above (changed_links small c) c.links all)

-- nothing was changed
nothing_changed : IsBadChange small (changes [] [] 6) None
nothing_changed = else_cut (changes [] [] 6) None refl tt

-- a file was made, and a name is gone
abbrev first_work : Changes
first_work = changes (made 6 made_kind.File ∷ []) (gives 1 (codes "a") 6 ∷ gone 2 (codes "a") ∷ []) 7

made_and_gone : IsBadChange small first_work None
made_and_gone =
    let links = changed_links small first_work in
    else_cut first_work None refl (leaf_is_not links 1 6 (codes "a") (λ n. refl) refl, (gone_is_not links 2 (codes "a"), tt))

-- the next file is the manifest's last
next_too_low : IsBadChange small (changes [] [] 5) (Some 0)
next_too_low = refl

-- file 3 stands at (2, a) too
also_elsewhere : IsBadChange small (changes [] (gives 1 (codes "z") 3 ∷ []) 6) (Some 1)
also_elsewhere = refl

-- src has a and b in it
abbrev without_src : Changes
without_src = changes [] (gone 1 (codes "src") ∷ []) 6

full_directory : IsBadChange small without_src (Some 1)
full_directory = else_cut without_src (Some 1) refl (gone_is_not (changed_links small without_src) 1 (codes "src"), tt)

-- 6 and 7 stand in each other
circle : IsBadChange small (changes (made 6 made_kind.Dir ∷ made 7 made_kind.Dir ∷ []) (gives 6 (codes "x") 7 ∷ gives 7 (codes "y") 6 ∷ []) 8) (Some 3)
circle = inl (0, gives 6 (codes "x") 7, refl, refl, (file 7, codes "y" ∷ [], refl, refl), λ j other below. absurd (omega (arith, below)))
