-- The added links, their places and the index of them, as links come and go.
use Rattle.std.proofs.Common.{◌≡◌, nat_eq, ℕ, ◌==◌, Bool, true, false, cond, List, Option, Some, None, IfSome, refl, sym, ap, subst, ◌∙◌, inl, inr}
use Rattle.std.specs.FinMap.{FinMap, empty, entries, get, get-empty, get-insert, get-remove, insert, remove, same_map}
use Rattle.std.specs.HashMap.{IsUnique}
use Rattle.std.specs.List.{list_any}
use Rattle.std.specs.Option.{option_map}
use Rattle.std.specs.Ordering.{eq_by_cmp}
use Rattle.directory_index.proofs.Standings.{known-at, place-or, same-place}
use Rattle.directory_index.specs.Index.{IsIndexOf}
use Rattle.directory_index.specs.Standing.{inserted, is_at, nothing, removed, AreKnown, Standing, StandsIn, StandsNowhere}
use Rattle.directory_index.specs.declared.directory_index.DirectoryIndex.{DirectoryIndex}
use Rattle.eden_base.specs.declared.number.FileId.{FileId}
use Rattle.manifest.specs.Tree.{link_cmp}
use Rattle.manifest.proofs.FlatLemmas.{has_link, has_no_link, link_cmp-same, link_cmp_total}
use Rattle.manifest.proofs.MapLemmas.{get-insert_other, get-insert_same, get-remove_other, get-remove_same, removed_nothing}
use Rattle.checkout.proofs.AddedPlaces.{alike-ArePlacesOf, file_of, inserted-ArePlacesOf, key, links_of-is, no_link, no_place, none-ArePlacesOf, place, removed-ArePlacesOf, same_file}
use Rattle.checkout.specs.Added.{gives, links_of, place_of, place_of_file, standing_of, without, AreLinks, ArePlacesOf}
use Rattle.checkout.specs.declared.added.places.AddedPlace.{AddedPlace}
use Rattle.checkout.specs.declared.added.places.AddedPlaces.{AddedPlaces}

abbrev id_of : FileId → ℕ
id_of file = file.0

-- what stands under a name is the file that a link gives there
pub standing-gives : (links : FinMap link_cmp FileId) (d : ℕ) (q : List ℕ) (o : Option ℕ) → standing_of links d q ≡ o → get links (d, q) ≡ option_map file_of o
standing-gives links d q o e = in_ (get links (d, q)) ∙ ap (option_map file_of) e where
  in_ : (f : Option FileId) → f ≡ option_map file_of (option_map id_of f)
  in_ (Some f) = refl
  in_ None = refl

-- what stands after a link came
pub standing-inserted : (links : FinMap link_cmp FileId) (k : ℕ × List ℕ) (file : FileId) → inserted (standing_of links) k.0 k.1 file.0 ≡ standing_of (insert links k file)
standing-inserted links k file i d q = at d q i where
  at : (d : ℕ) (q : List ℕ) → inserted (standing_of links) k.0 k.1 file.0 d q ≡ standing_of (insert links k file) d q
  at d q = elim (place-or d q k.0 k.1) [
    | inl p ↦ rw p.0 (sym (ap (option_map id_of) (ap (get (insert links k file)) (λ i. (p.1.0 i, p.1.1 i)) ∙ get-insert_same link_cmp_total links k file)))
    | inr p ↦ rw p.0 (sym (ap (option_map id_of) (get-insert_other link_cmp_total link_cmp-same links k file (d, q) (λ e. p.1 (λ i. (e i).0) (λ i. (e i).1)))))
  ]

-- and after one went
pub standing-removed : (links : FinMap link_cmp FileId) (k : ℕ × List ℕ) → removed (standing_of links) k.0 k.1 ≡ standing_of (remove links k)
standing-removed links k i d q = at d q i where
  at : (d : ℕ) (q : List ℕ) → removed (standing_of links) k.0 k.1 d q ≡ standing_of (remove links k) d q
  at d q = elim (place-or d q k.0 k.1) [
    | inl p ↦ rw p.0 (sym (ap (option_map id_of) (ap (get (remove links k)) (λ i. (p.1.0 i, p.1.1 i)) ∙ get-remove_same link_cmp_total links k)))
    | inr p ↦ rw p.0 (sym (ap (option_map id_of) (get-remove_other link_cmp_total link_cmp-same links k (d, q) (λ e. p.1 (λ i. (e i).0) (λ i. (e i).1)))))
  ]

-- the places know where each file stands
pub places-known : (links : FinMap link_cmp FileId) (places : AddedPlaces) → ArePlacesOf links (place_of_file places) → AreKnown (standing_of links) (place_of places)
places-known links places are d q n e = ap (option_map key) (are.each d q (file_of n) (standing-gives links d q (Some n) e))

-- what the index finds under a name is the file of the link there
pub found-link : (links : FinMap link_cmp FileId) (places : AddedPlaces) (index : DirectoryIndex) → AreLinks links places index → (dir : ℕ) (text name : List ℕ) (found : Option ℕ) → text ≡ name →
    ((at : Standing) → IsIndexOf at index → AreKnown at (place_of places) → found ≡ at dir text) → option_map file_of found ≡ get links (dir, name)
found-link links places index are dir text name found same finds =
    sym (standing-gives links dir name found (ap (standing_of links dir) (sym same) ∙ sym (finds (standing_of links) are.is_index (places-known links places are.are_places))))

-- a directory has a link where something stands in it
pub any-link : (links : FinMap link_cmp FileId) (dir : ℕ) (b : Bool) → (b ≡ true → (n : ℕ) × StandsIn (standing_of links) dir n) → (b ≡ false → (q : List ℕ) → standing_of links dir q ≡ None) →
    b ≡ list_any (λ (link : (ℕ × List ℕ) × FileId). link.0.0 == dir) (entries links)
any-link links dir true some none = let w = some refl in sym (has_link links dir w.1.0 (file_of w.0) (standing-gives links dir w.1.0 (Some w.0) w.1.1))
any-link links dir false some none = sym (has_no_link links dir (λ q. standing-gives links dir q None (none refl q)))

-- without a link in the directory no name gives a file
pub no-link-in : (links : FinMap link_cmp FileId) (dir : ℕ) → list_any (λ (link : (ℕ × List ℕ) × FileId). link.0.0 == dir) (entries links) ≡ false → (name : List ℕ) → get links (dir, name) ≡ None
no-link-in links dir none name = in_ (get links (dir, name)) refl where
  in_ : (o : Option FileId) → get links (dir, name) ≡ o → o ≡ None
  in_ None e = refl
  in_ (Some file) e = let some = has_link links dir name file e in let no : ⊥ = cc in absurd no

module _ (links : FinMap link_cmp FileId) (old new : AddedPlaces) (before after : DirectoryIndex) (are : AreLinks links old before) (unique : IsUnique nat_eq new.files) where
  -- a link came to a free place
  pub added-AreLinks : (to : ℕ × List ℕ) (file : FileId) → get links to ≡ None → gives links file ≡ false → ((q : ℕ) → place_of_file new q ≡ cond (nat_eq file.0 q) (Some (place to)) (place_of_file old q)) →
      ((at : Standing) → IsIndexOf at before → at to.0 to.1 ≡ None → StandsNowhere at file.0 → IsIndexOf (inserted at to.0 to.1 file.0) after) → AreLinks (insert links to file) new after
  added-AreLinks to file free new_file updated indexed =
      let none = no_place links (place_of_file old) are.are_places file new_file in
      record {
        unique = unique;
        are_places = inserted-ArePlacesOf links (place_of_file old) are.are_places (place_of_file new) to file free none updated;
        is_index = subst (λ (s : Standing). IsIndexOf s after) (standing-inserted links to file) (indexed (standing_of links) are.is_index (ap (option_map id_of) free) (λ d q e. no_link links (place_of_file old) are.are_places file none (d, q) (standing-gives links d q (Some file.0) e)));
      }

  -- a file's link went from its place
  pub removed-AreLinks : (file : FileId) (at : AddedPlace) → place_of_file old file.0 ≡ Some at → ((q : ℕ) → place_of_file new q ≡ cond (nat_eq file.0 q) None (place_of_file old q)) →
      ((s : Standing) → IsIndexOf s before → AreKnown s (place_of old) → s at.dir.0 at.name ≡ Some file.0 → IsIndexOf (removed s at.dir.0 at.name) after) → AreLinks (remove links (key at)) new after
  removed-AreLinks file at was updated indexed =
      let there = are.are_places.no_others file.0 at was in
      record {
        unique = unique;
        are_places = removed-ArePlacesOf links (place_of_file old) are.are_places (place_of_file new) (key at) file there updated;
        is_index = subst (λ (s : Standing). IsIndexOf s after) (standing-removed links (key at)) (indexed (standing_of links) are.is_index (places-known links old are.are_places) (ap (option_map id_of) there));
      }

  -- the same links in parts that say the same
  pub alike-AreLinks : ((q : ℕ) → place_of_file new q ≡ place_of_file old q) → ((at : Standing) → IsIndexOf at before → AreKnown at (place_of old) → IsIndexOf at after) → AreLinks links new after
  alike-AreLinks same indexed = record {
    unique = unique;
    are_places = alike-ArePlacesOf links (place_of_file old) (place_of_file new) same are.are_places;
    is_index = indexed (standing_of links) are.is_index (places-known links old are.are_places);
  }

-- no links
pub none-AreLinks : (places : AddedPlaces) (index : DirectoryIndex) → IsUnique nat_eq places.files → ((q : ℕ) → place_of_file places q ≡ None) → IsIndexOf nothing index → AreLinks empty places index
none-AreLinks places index unique none is = record {
  unique = unique;
  are_places = none-ArePlacesOf (place_of_file places) none;
  is_index = subst (λ (s : Standing). IsIndexOf s index) (λ i d q. ap (option_map id_of) (sym (get-empty {X = FileId} link_cmp (d, q))) i) is;
}

-- places that have these links make them
pub shown-AreLinks : (links : FinMap link_cmp FileId) (places : AddedPlaces) (index : DirectoryIndex) → AreLinks links places index → (links_of places.files.entries ≡ links) × AreLinks (links_of places.files.entries) places index
shown-AreLinks links places index are =
    let is = links_of-is places.files.entries are.unique links are.are_places in
    (is, subst (λ (m : FinMap link_cmp FileId). AreLinks m places index) (sym is) are)

-- where no link gives a file, none goes
pub unmoved-AreLinks : (links : FinMap link_cmp FileId) (places : AddedPlaces) (index : DirectoryIndex) (k : ℕ × List ℕ) → get links k ≡ None → AreLinks links places index → AreLinks (remove links k) places index
unmoved-AreLinks links places index k none are = subst (λ (m : FinMap link_cmp FileId). AreLinks m places index) (sym (removed_nothing link_cmp_total link_cmp-same links k none)) are

-- a file that stands under a name has its place there
pub stands-place : (o : Option AddedPlace) (dir : ℕ) (name : List ℕ) → is_at (option_map key o) dir name ≡ true → o ≡ Some (place (dir, name))
stands-place None dir name t = absurd (let no : ⊥ = cc in no)
stands-place (Some p) dir name t = let same = same-place p.dir.0 dir p.name name t in λ i. Some (place (same.0 i, same.1 i))

module _ (links : FinMap link_cmp FileId) (places : AddedPlaces) (are : ArePlacesOf links (place_of_file places)) where
  -- where the only file that a link may give doesn't stand, no link is
  pub stands-not : (k : ℕ × List ℕ) (file : FileId) → IfSome (get links k) (λ other. Some file ≡ Some other) → is_at (place_of places file.0) k.0 k.1 ≡ false → get links k ≡ None
  stands-not k file only not = in_ (get links k) refl only where
    in_ : (o : Option FileId) → get links k ≡ o → IfSome o (λ other. Some file ≡ Some other) → o ≡ None
    in_ None e same = refl
    in_ (Some other) e same =
        let there = known-at (standing_of links) (place_of places) (places-known links places are) k.0 k.1 other.0 (ap (option_map id_of) e) in
        let one = ap (λ (f : FileId). is_at (place_of places f.0) k.0 k.1) (same_file file other same) in
        let no : ⊥ = cc in absurd no

  -- the only link that gives a file goes with its place
  pub without-is : (from : ℕ × List ℕ) (file : FileId) → IfSome (get links from) (λ other. other ≡ file) → ((k : ℕ × List ℕ) → get links k ≡ Some file → k ≡ from) → without links (place_of_file places file.0) ≡ remove links from
  without-is from file there once = in_ (place_of_file places file.0) refl where
    in_ : (o : Option AddedPlace) → place_of_file places file.0 ≡ o → without links o ≡ remove links from
    in_ (Some p) e = ap (remove links) (once (key p) (are.no_others file.0 p e))
    in_ None e = sym (removed_nothing link_cmp_total link_cmp-same links from (none_in (get links from) refl there)) where
      none_in : (o : Option FileId) → get links from ≡ o → IfSome o (λ other. other ≡ file) → o ≡ None
      none_in None g same = refl
      none_in (Some other) g same = absurd (no_link links (place_of_file places) are file e from (g ∙ ap (λ (x : FileId). Some x) same))

-- what was removed comes again, or another file in its place
pub put-again : (links : FinMap link_cmp FileId) (k : ℕ × List ℕ) (file : FileId) → insert (remove links k) k file ≡ insert links k file
put-again links k file = same_map link_cmp_total link_cmp-same _ _ (λ q.
    get-insert link_cmp_total (remove links k) k file q ∙ ap (cond (eq_by_cmp link_cmp q k) (Some file)) (get-remove link_cmp_total links k q) ∙ twice (eq_by_cmp link_cmp q k) (get links q) ∙ sym (get-insert link_cmp_total links k file q))
  where
    twice : (b : Bool) (o : Option FileId) → cond b (Some file) (cond b None o) ≡ cond b (Some file) o
    twice true o = refl
    twice false o = refl
