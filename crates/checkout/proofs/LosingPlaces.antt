-- A place of a tree laid over a manifest's, as its file loses the link of its line.
use Rattle.std.proofs.Common.{◌≡◌, ℕ, ◌==◌, ◌&&◌, ◌||◌, Bool, true, false, List, Option, Some, None, is_some, refl, sym, ap, ◌∙◌}
use Rattle.std.proofs.Math.Bool.{or-true}
use Rattle.std.specs.FinMap.{FinMap, get}
use Rattle.std.specs.Ordering.{nat_cmp}
use Rattle.eden_base.proofs.NumberTests.{true-eq}
use Rattle.eden_base.specs.declared.number.FileId.{FileId}
use Rattle.checkout.specs.declared.made.MadeFile.{MadeFile}
use Rattle.checkout.specs.BadChanges.{file_does}
use Rattle.checkout.specs.Overlay.{tree_over, IsOverlay}
use Rattle.manifest.specs.Manifest.{Line, Manifest, line_of}
use Rattle.manifest.specs.Tree.{Tree, link_cmp, child_of, links_from}
use Rattle.manifest.proofs.ManifestTree.{line_of_link}
use Rattle.manifest.proofs.PlaceLaws.{both}
use Rattle.checkout.proofs.AboveLaws.{base_of_line, line_of-link}
use Rattle.checkout.proofs.OverlayLaws.{child_left}

-- a file has a line
abbrev pub has_line : Manifest → FileId → Bool
has_line m file = is_some (line_of m.lines file)

-- the target is the file of this id, and has a line
abbrev pub goes_with : Manifest → Option FileId → ℕ → Bool
goes_with m target q = file_does (λ f. has_line m f && (q == f.0)) target

-- what was known anyway
silent : (test known : Bool) → (test ≡ true → known ≡ true) → (test || known) ≡ known
silent true known h = sym (h refl)
silent false known h = refl

or-mid : (a b x g : Bool) → (a || g) ≡ (b || g) → (a || (x || g)) ≡ (b || (x || g))
or-mid a b true g h = or-true a ∙ sym (or-true b)
or-mid a b false g h = h

module _ (m : Manifest) (made : FinMap nat_cmp MadeFile) (added : FinMap link_cmp FileId) (gone : ℕ → Bool) (lost : ℕ → ℕ) (next : ℕ) (is : IsOverlay m made added gone lost next) (self : Tree) (view : tree_over m made added gone next ≡ self)
    (dir : FileId) (name : List ℕ) (target : Option FileId) (child : child_of self dir name ≡ target) where
  abbrev base : FinMap link_cmp FileId
  base = links_from 2 m.lines

  here : child_of (tree_over m made added gone next) dir name ≡ target
  here = ap (λ (t : Tree). child_of t dir name) view ∙ child

  -- where the link of its line is left, the manifest has it at this place
  own_here : (file : FileId) → target ≡ Some file → has_line m file ≡ true → gone file.0 ≡ false → get base (dir.0, name) ≡ Some file
  own_here file t l g = in_ (line_of m.lines file) refl l where
    in_ : (o : Option Line) → line_of m.lines file ≡ o → is_some o ≡ true → get base (dir.0, name) ≡ Some file
    in_ None e some = absurd (let no : ⊥ = cc in no)
    in_ (Some line) e some =
        let there : get base (line.dir.0, line.name) ≡ Some file = base_of_line m is.parts.is_manifest file line e in
        let one = is.is_tree.links_are_apart line.dir dir line.name name file (child_left m made added gone lost next is.parts line.dir line.name file there g) (here ∙ t) in
        sym (ap (get base) (λ i. ((one.0 i).0, one.1 i))) ∙ there

  -- what the manifest has at this place is the file of the place, or gone
  base_gone : (g : FileId) → get base (dir.0, name) ≡ Some g → (target ≡ Some g → ⊥) → gone g.0 ≡ true
  base_gone g b other =
      elim (gone g.0) as (λ x. gone g.0 ≡ x → x ≡ true) [
        | true ↦ λ _. refl
        | false ↦ λ e. absurd (other (sym here ∙ child_left m made added gone lost next is.parts dir name g b e))
      ] refl

  -- a file of the place that the manifest has elsewhere is gone
  target_gone : (f : FileId) → target ≡ Some f → has_line m f ≡ true → (get base (dir.0, name) ≡ Some f → gone f.0 ≡ true) → gone f.0 ≡ true
  target_gone f t l h =
      elim (gone f.0) as (λ x. gone f.0 ≡ x → x ≡ true) [
        | true ↦ λ _. refl
        | false ↦ λ e. sym e ∙ h (own_here f t l e)
      ] refl

  gone_at : (q : ℕ) (f : FileId) → (q == f.0) ≡ true → gone f.0 ≡ true → gone q ≡ true
  gone_at q f t g = ap gone (true-eq q f.0 t) ∙ g

  -- so what goes with the file of the place goes with what the manifest has there
  same_goes : (q : ℕ) → (goes_with m target q || gone q) ≡ (file_does (λ f. q == f.0) (get base (dir.0, name)) || gone q)
  same_goes q = in_ target refl (get base (dir.0, name)) refl where
    by_gone : (f g : FileId) → target ≡ Some f → get base (dir.0, name) ≡ Some g → (x : Bool) → gone g.0 ≡ x →
        ((has_line m f && (q == f.0)) || gone q) ≡ ((q == g.0) || gone q)
    by_gone f g e b true k =
        silent (has_line m f && (q == f.0)) (gone q) (λ h. let w = both (has_line m f) (q == f.0) h in gone_at q f w.1 (target_gone f e w.0 (λ there. let one : g ≡ f = cc (b, there) in ap (λ (x : FileId). gone x.0) (sym one) ∙ k)))
        ∙ sym (silent (q == g.0) (gone q) (λ same. gone_at q g same k))
    by_gone f g e b false k =
        let there : target ≡ Some g = sym here ∙ child_left m made added gone lost next is.parts dir name g b k in
        let one : f ≡ g = cc (e, there) in
        let at = line_of_link m.lines 2 dir.0 name g b in
        let line : has_line m g ≡ true = ap is_some (line_of-link m.lines g at.place at.line at.here at.file_is) in
        ap (λ (x : FileId). (has_line m x && (q == x.0)) || gone q) one ∙ ap (λ y. (y && (q == g.0)) || gone q) line

    in_ : (t : Option FileId) → target ≡ t → (o : Option FileId) → get base (dir.0, name) ≡ o →
        (file_does (λ f. has_line m f && (q == f.0)) t || gone q) ≡ (file_does (λ f. q == f.0) o || gone q)
    in_ None e None b = refl
    in_ None e (Some g) b = sym (silent (q == g.0) (gone q) (λ same. gone_at q g same (base_gone g b (λ s. cc (e, s)))))
    in_ (Some f) e None b = silent (has_line m f && (q == f.0)) (gone q) (λ h. let w = both (has_line m f) (q == f.0) h in gone_at q f w.1 (target_gone f e w.0 (λ there. absurd (cc (b, there)))))
    in_ (Some f) e (Some g) b = by_gone f g e b (gone g.0) refl

  pub goes_first : (gone' : ℕ → Bool) → ((q : ℕ) → gone' q ≡ (goes_with m target q || gone q)) → (q : ℕ) → gone' q ≡ (file_does (λ f. q == f.0) (get base (dir.0, name)) || gone q)
  goes_first gone' goes q = goes q ∙ same_goes q

  -- so it is where others went before
  pub goes_next : (before gone₁ gone₂ : ℕ → Bool) → ((q : ℕ) → gone₁ q ≡ (before q || gone q)) → ((q : ℕ) → gone₂ q ≡ (goes_with m target q || gone₁ q)) →
      (q : ℕ) → gone₂ q ≡ (file_does (λ f. q == f.0) (get base (dir.0, name)) || gone₁ q)
  goes_next before gone₁ gone₂ one two q =
      two q ∙ ap (λ b. goes_with m target q || b) (one q)
      ∙ or-mid (goes_with m target q) (file_does (λ f. q == f.0) (get base (dir.0, name))) (before q) (gone q) (same_goes q)
      ∙ sym (ap (λ b. file_does (λ f. q == f.0) (get base (dir.0, name)) || b) (one q))
