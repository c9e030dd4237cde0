-- Lookups in a tree that is laid over a manifest's.
use Rattle.std.proofs.Common.{◌≡◌, ℕ, Bool, true, false, cond, not, if◌then◌else◌, List, [], ◌∷◌, ◌++◌, map, Option, Some, None, IsSome, length, ◌+◌, ◌≤◌, refl, sym, ap, ◌∙◌, inl, inr, arith}
use Rattle.std.specs.Option.{option_map, option_or}
use Rattle.std.specs.Ordering.{nat_cmp, eq_by_cmp}
use Rattle.std.specs.Cmp.{nat_cmp_total}
use Rattle.std.specs.FinMap.{FinMap, get, entries, empty, find, get-empty, get-entries, get-from_entries, retain_keys, get-retain_keys, same_map, nat_cmp-IsAntisymmetric}
use Rattle.eden_base.specs.declared.number.FileId.{FileId}
use Rattle.checkout.specs.declared.made.MadeFile.{MadeFile}
use Rattle.eden_base.proofs.MemberLemmas.{some-IsSome}
use Rattle.manifest.specs.Manifest.{File, Line}
use Rattle.checkout.specs.Overlay.{file_made, files_over, stays, still, links_over}
use Rattle.manifest.specs.Tree.{files_from, link_cmp}
use Rattle.manifest.proofs.FlatLemmas.{find-append, link_cmp_total, link_cmp-same}
use Rattle.manifest.proofs.ManifestTree.{id_of_file}

find-values : {X Y : Type 0} (f : X → Y) (es : List (ℕ × X)) (q : ℕ) → find nat_cmp q (map (λ (e : ℕ × X). (e.0, f e.1)) es) ≡ option_map f (find nat_cmp q es)
find-values f [] q = refl
find-values {X} {Y} f (e ∷ es) q =
    elim (eq_by_cmp nat_cmp q e.0) as (λ b. cond b (Some (f e.1)) (find nat_cmp q (map (λ (x : ℕ × X). (x.0, f x.1)) es)) ≡ option_map f (cond b (Some e.1) (find nat_cmp q es))) [
      | true ↦ refl
      | false ↦ find-values f es q
    ]

-- a made file, or the manifest's
pub get-files_over : (made : FinMap nat_cmp MadeFile) (base : FinMap nat_cmp File) (q : ℕ) → get (files_over made base) q ≡ option_or (option_map file_made (get made q)) (get base q)
get-files_over made base q =
    get-from_entries nat_cmp_total (map (λ (e : ℕ × MadeFile). (e.0, file_made e.1)) (entries made) ++ entries base) q
    ∙ find-append nat_cmp q (map (λ (e : ℕ × MadeFile). (e.0, file_made e.1)) (entries made)) (entries base)
    ∙ ap (λ o. option_or o (find nat_cmp q (entries base))) (find-values file_made (entries made) q ∙ ap (option_map file_made) (sym (get-entries made q)))
    ∙ ap (option_or (option_map file_made (get made q))) (sym (get-entries base q))

-- a file of the lines was not made
pub none-made : (made : FinMap nat_cmp MadeFile) (lines : List Line) (q : ℕ) (file : File) → ((f : ℕ) → IsSome (get made f) → length lines + 2 ≤ f) → get (files_from 2 lines) q ≡ Some file → get made q ≡ None
none-made made lines q file later h = in_ (get made q) refl where
  in_ : (o : Option MadeFile) → get made q ≡ o → o ≡ None
  in_ None e = refl
  in_ (Some m) e =
      let past = later q (some-IsSome (get made q) m e) in
      absurd (elim (id_of_file 2 lines q file h) [ inl one ↦ omega (arith, one, past) | inr w ↦ omega (arith, w.1, past) ])

kept : (gone : ℕ → Bool) (o : Option FileId) → cond (stays gone o) o None ≡ still gone o
kept gone None = refl
kept gone (Some file) = elim (gone file.0) as (λ b. cond (not b) (Some file) None ≡ (if b then None else Some file)) [ true ↦ refl | false ↦ refl ]

-- a link that was added, or what the manifest's gives still
pub get-links_over : (added : FinMap link_cmp FileId) (gone : ℕ → Bool) (base : FinMap link_cmp FileId) (k : ℕ × List ℕ) → get (links_over added gone base) k ≡ option_or (get added k) (still gone (get base k))
get-links_over added gone base k =
    let p : ℕ × List ℕ → Bool = λ x. stays gone (get base x) in
    let left = retain_keys base p in
    let rest = get-retain_keys base p k (λ x e. ap p (sym (link_cmp-same k x e))) ∙ kept gone (get base k) in
    get-from_entries link_cmp_total (entries added ++ entries left) k ∙ find-append link_cmp k (entries added) (entries left)
    ∙ ap (λ o. option_or o (find link_cmp k (entries left))) (sym (get-entries added k))
    ∙ ap (option_or (get added k)) (sym (get-entries left k) ∙ rest)

-- where nothing differs
pub files_over-nothing : (base : FinMap nat_cmp File) → files_over empty base ≡ base
files_over-nothing base =
    same_map nat_cmp_total nat_cmp-IsAntisymmetric _ _ (λ q. get-files_over empty base q ∙ ap (λ o. option_or (option_map file_made o) (get base q)) (get-empty nat_cmp q))

pub links_over-nothing : (gone : ℕ → Bool) (base : FinMap link_cmp FileId) → ((q : ℕ) → gone q ≡ false) → links_over empty gone base ≡ base
links_over-nothing gone base none =
    same_map link_cmp_total link_cmp-same _ _ (λ q. get-links_over empty gone base q ∙ ap (λ o. option_or o (still gone (get base q))) (get-empty link_cmp q) ∙ all (get base q))
  where
    all : (o : Option FileId) → still gone o ≡ o
    all None = refl
    all (Some file) = ap (λ (b : Bool). if b then None else Some file) (none file.0)
