-- Paths through a tree, and through one with a link more or less.
use Rattle.std.proofs.Common.{◌≡◌, ℕ, List, [], ◌∷◌, ◌++◌, Some, None, refl, sym, ap, ◌∙◌}
use Rattle.std.specs.Option.{option_and_then}
use Rattle.eden_base.specs.declared.number.FileId.{FileId}
use Rattle.manifest.specs.Tree.{Tree, child_of, file_at}

pub file_at-append : (tree : Tree) (dir : FileId) (path more : List (List ℕ)) → file_at tree dir (path ++ more) ≡ option_and_then (λ (f : FileId). file_at tree f more) (file_at tree dir path)
file_at-append tree dir [] more = refl
file_at-append tree dir (name ∷ path) more =
    elim (child_of tree dir name) as (λ o. option_and_then (λ (child : FileId). file_at tree child (path ++ more)) o ≡ option_and_then (λ (f : FileId). file_at tree f more) (option_and_then (λ (child : FileId). file_at tree child path) o)) [
      | None ↦ refl
      | Some child ↦ file_at-append tree child path more
    ]

-- a path, and one name more
pub file_at-below : (tree : Tree) (from dir : FileId) (path : List (List ℕ)) (name : List ℕ) (file : FileId) → file_at tree from path ≡ Some dir → child_of tree dir name ≡ Some file → file_at tree from (path ++ name ∷ []) ≡ Some file
file_at-below tree from dir path name file to_dir to_file =
    file_at-append tree from path (name ∷ []) ∙ ap (option_and_then (λ (f : FileId). file_at tree f (name ∷ []))) to_dir
    ∙ ap (option_and_then (λ (child : FileId). file_at tree child [])) to_file

-- where all links stay, all paths stay
pub file_at-stays : (old new : Tree) → ((dir : FileId) (name : List ℕ) (file : FileId) → child_of old dir name ≡ Some file → child_of new dir name ≡ Some file) →
    (dir : FileId) (path : List (List ℕ)) (file : FileId) → file_at old dir path ≡ Some file → file_at new dir path ≡ Some file
file_at-stays old new stay dir [] file h = h
file_at-stays old new stay dir (name ∷ path) file h =
    elim (child_of old dir name) as (λ o. child_of old dir name ≡ o → option_and_then (λ (child : FileId). file_at old child path) o ≡ Some file → file_at new dir (name ∷ path) ≡ Some file) [
      | None ↦ λ e g. absurd (cc)
      | Some child ↦ λ e g. ap (option_and_then (λ (c : FileId). file_at new c path)) (stay dir name child e) ∙ file_at-stays old new stay child path file g
    ] refl h

-- where all links stay but those that give a file without links, the paths to other files stay
pub file_at-beside : (old new : Tree) (gone : FileId) → ((name : List ℕ) → child_of old gone name ≡ None) →
    ((dir : FileId) (name : List ℕ) (file : FileId) → child_of old dir name ≡ Some file → (file ≡ gone → ⊥) → child_of new dir name ≡ Some file) →
    (dir : FileId) (path : List (List ℕ)) (file : FileId) → (file ≡ gone → ⊥) → file_at old dir path ≡ Some file → file_at new dir path ≡ Some file
file_at-beside old new gone none stay dir [] file other h = h
file_at-beside old new gone none stay dir (name ∷ path) file other h =
    elim (child_of old dir name) as (λ o. child_of old dir name ≡ o → option_and_then (λ (child : FileId). file_at old child path) o ≡ Some file → file_at new dir (name ∷ path) ≡ Some file) [
      | None ↦ λ e g. absurd (cc)
      | Some child ↦ λ e g.
          ap (option_and_then (λ (c : FileId). file_at new c path)) (stay dir name child e (not_gone child path g))
          ∙ file_at-beside old new gone none stay child path file other g
    ] refl h
  where
    -- a path ends at the gone file or doesn't come to it
    not_gone : (child : FileId) (rest : List (List ℕ)) → file_at old child rest ≡ Some file → child ≡ gone → ⊥
    not_gone child [] g e = other (let s : child ≡ file = cc in sym s ∙ e)
    not_gone child (next ∷ rest) g e =
        let ends : child_of old child next ≡ None = ap (λ (f : FileId). child_of old f next) e ∙ none next in
        let all = ap (option_and_then (λ (c : FileId). file_at old c rest)) ends in
        cc (g, all)
