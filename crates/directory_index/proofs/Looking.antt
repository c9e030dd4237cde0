-- What is found in an index is what stands.
use Rattle.std.proofs.Common.{◌≡◌, ◌≤◌, min, ℕ, Bool, true, false, List, [], ◌∷◌, Option, Some, None, if◌then◌else◌, refl, sym, ap, subst, ◌∙◌, inl, inr, ◌⊎◌, arith}
use Rattle.std.proofs.lemmas.Bool.{and_parts}
use Rattle.std.proofs.lemmas.Bool.Decides.{nat_tests}
use Rattle.std.specs.Prelude.{◌==◌, ◌&&◌, nat_eq, nat_le}
use Rattle.std.specs.Option.{option_map_or}
use Rattle.std.specs.Cmp.{unsigned_ties}
use Rattle.std.specs.HashMap as hash
use Rattle.std.specs.List.{list_any}
use Rattle.std.specs.Ordering.{nat_cmp}
use Rattle.std.specs.BTreeMap.{is_at}
use Rattle.eden_base.proofs.NumberTests.{eq-true, true-eq}
use Rattle.directory_index.specs.Keys.{key_of}
use Rattle.directory_index.proofs.PlaceChanges.{below-stands, latest-stands, stands-either}
use Rattle.directory_index.proofs.Standings.{known-at, known-here, same-number}
use Rattle.directory_index.specs.Children.{has_children, is_among, is_child, IsFirstChild}
use Rattle.directory_index.specs.NumberSet.{numbers_of}
use Rattle.directory_index.specs.Rising.{is_some_in}
use Rattle.directory_index.specs.Index.{IsIndexOf}
use Rattle.directory_index.specs.PlaceIndex.{is_latest_in, latest_at, latest_from, AddsLatest, ArePlacesOf}
use Rattle.directory_index.specs.Names.{at_key, written, IsNamed}
use Rattle.directory_index.specs.Standing.{if_at, is_at as stands_at, AreKnown, IsFirstFrom, Standing, StandsIn}
use Rattle.directory_index.specs.declared.children.Children.{Children}
use Rattle.directory_index.specs.declared.number_set.NumberSet.{NumberSet}
use Rattle.directory_index.specs.declared.directory_index.DirectoryIndex.{DirectoryIndex}
use Rattle.directory_index.specs.declared.link.Link.{Link}
use Rattle.directory_index.specs.declared.place_index.PlaceIndex.{PlaceIndex}

-- the less of two numbers is one of them
min-one : (a b n : ℕ) → n ≡ min a b → (n ≡ a) ⊎ (n ≡ b)
min-one a b n is = in_ (nat_le a b) refl where
  in_ : (t : Bool) → nat_le a b ≡ t → (n ≡ a) ⊎ (n ≡ b)
  in_ true t = let bound : a ≤ b = grind (arith, nat_tests) in inl (omega arith)
  in_ false t = let bound : b ≤ a = grind (arith, nat_tests) in inr (omega arith)

-- a number that was found, and stands where it was looked for
module _ (place : ℕ → Option (ℕ × List ℕ)) (dir : ℕ) (name : List ℕ) where
  pub found-at : (o : Option ℕ) (n : ℕ) → if_at place dir name o ≡ Some n → (o ≡ Some n) × (stands_at (place n) dir name ≡ true)
  found-at None n e = let no : ⊥ = cc in absurd no
  found-at (Some m) n e = in_ (stands_at (place m) dir name) refl e where
    in_ : (b : Bool) → stands_at (place m) dir name ≡ b → (if b then Some m else None) ≡ Some n → (Some m ≡ Some n) × (stands_at (place n) dir name ≡ true)
    in_ true t s = (s, ap (λ (k : ℕ). stands_at (place k) dir name) (sym (same-number m n s)) ∙ t)
    in_ false t s = let no : ⊥ = cc in absurd no

  pub missed-at : (o : Option ℕ) (n : ℕ) → if_at place dir name o ≡ None → o ≡ Some n → stands_at (place n) dir name ≡ true → ⊥
  missed-at o n none is t =
      let found : if_at place dir name o ≡ Some n = ap (if_at place dir name) is ∙ (rw t refl) in
      let no : ⊥ = cc in no

-- an index is looked through: beside the maps, at the place's key, and under its name
module _ (at below : Standing) (index : PlaceIndex) (is : ArePlacesOf at below index) (place : ℕ → Option (ℕ × List ℕ)) (known : AreKnown at place) (dir : ℕ) (name : List ℕ) where
  pub found-latest : (n : ℕ) → if_at place dir name (latest_at index.latest (key_of dir name)) ≡ Some n → Some n ≡ at dir name
  found-latest n e = in_ index.latest is.latest (found-at place dir name (latest_at index.latest (key_of dir name)) n e) where
    in_ : (o : Option Link) → AddsLatest below o at → (latest_at o (key_of dir name) ≡ Some n) × (stands_at (place n) dir name ≡ true) → Some n ≡ at dir name
    in_ None adds w = let none = w.0 in let no : ⊥ = cc in absurd no
    in_ (Some link) adds w = key_in (link.key == key_of dir name) w.0 where
      key_in : (b : Bool) → (if b then Some link.number else None) ≡ Some n → Some n ≡ at dir name
      key_in true s = sym (known-here at place known link.dir adds.0 n (latest-stands below at link adds ∙ s) dir name w.1)
      key_in false s = let no : ⊥ = cc in absurd no

  pub found-key : (n : ℕ) → if_at place dir name (at_key index.names.keys (key_of dir name)) ≡ Some n → Some n ≡ at dir name
  found-key n e =
      let w = found-at place dir name (at_key index.names.keys (key_of dir name)) n e in
      let stood = is.names.keyed (key_of dir name) n w.0 in
      sym (known-here at place known stood.0 stood.1 n (below-stands below at index.latest is.latest stood.0 stood.1 n stood.2) dir name w.1)

  pub found-other : if_at place dir name (latest_at index.latest (key_of dir name)) ≡ None → if_at place dir name (at_key index.names.keys (key_of dir name)) ≡ None →
      written index.names.others dir name ≡ at dir name
  found-other no_latest no_key = in_ (at dir name) refl (written index.names.others dir name) refl where
    named : (n : ℕ) → at dir name ≡ Some n → IsNamed index.names dir name n → written index.names.others dir name ≡ Some n
    named n a (inl e) = absurd (missed-at place dir name (at_key index.names.keys (key_of dir name)) n no_key e (known-at at place known dir name n a))
    named n a (inr e) = e

    either : (n : ℕ) → at dir name ≡ Some n → (below dir name ≡ Some n) ⊎ ((link : Link) × (index.latest ≡ Some link) × (link.number ≡ n) × (link.dir ≡ dir) × (link.key ≡ key_of dir name)) → written index.names.others dir name ≡ Some n
    either n a (inl e) = named n a (is.names.each dir name n e)
    either n a (inr w) =
        let t = eq-true w.0.key (key_of dir name) w.4 in
        let found : latest_at index.latest (key_of dir name) ≡ Some n = ap (λ (o : Option Link). latest_at o (key_of dir name)) w.1 ∙ (rw t (ap Some w.2)) in
        absurd (missed-at place dir name (latest_at index.latest (key_of dir name)) n no_latest found (known-at at place known dir name n a))

    in_ : (o : Option ℕ) → at dir name ≡ o → (v : Option ℕ) → written index.names.others dir name ≡ v → written index.names.others dir name ≡ at dir name
    in_ (Some n) a v w = either n a (stands-either below at index.latest is.latest dir name n a) ∙ sym a
    in_ None a (Some m) w = let there = below-stands below at index.latest is.latest dir name m (is.names.others dir name m w) in absurd (let no : ⊥ = cc in no)
    in_ None a None w = w ∙ sym a

-- a directory has a number, or none
some-child : (children : Children) (dir : ℕ) → has_children children dir ≡ true → (n : ℕ) × (is_child children dir n ≡ true)
some-child children dir t = in_ (hash.get nat_eq children.directories dir) refl t where
  member : (d : NumberSet) → (ns : List ℕ) → numbers_of d ≡ ns → is_some_in ns ≡ true → (n : ℕ) × (is_among n d ≡ true)
  member d [] e s = let no : ⊥ = cc in absurd no
  member d (n ∷ ns) e s = let same = eq-true n n refl in let first : is_at (nat_cmp n) n ≡ true = sym (unsigned_ties n n) ∙ same in
      (n, ap (list_any (is_at (nat_cmp n))) e ∙ (rw first refl))

  in_ : (o : Option NumberSet) → hash.get nat_eq children.directories dir ≡ o → option_map_or (λ (d : NumberSet). is_some_in (numbers_of d)) o false ≡ true → (n : ℕ) × (is_child children dir n ≡ true)
  in_ None e s = let no : ⊥ = cc in absurd no
  in_ (Some d) e s = let w = member d (numbers_of d) refl s in (w.0, ap (λ (o : Option NumberSet). option_map_or (is_among w.0) o false) e ∙ w.1)

no-child : (children : Children) (dir n : ℕ) → has_children children dir ≡ false → is_child children dir n ≡ false
no-child children dir n f = in_ (hash.get nat_eq children.directories dir) refl f where
  member : (d : NumberSet) → (ns : List ℕ) → numbers_of d ≡ ns → is_some_in ns ≡ false → is_among n d ≡ false
  member d [] e s = ap (list_any (is_at (nat_cmp n))) e
  member d (m ∷ ns) e s = let no : ⊥ = cc in absurd no

  in_ : (o : Option NumberSet) → hash.get nat_eq children.directories dir ≡ o → option_map_or (λ (d : NumberSet). is_some_in (numbers_of d)) o false ≡ false → is_child children dir n ≡ false
  in_ None e s = ap (λ (o : Option NumberSet). option_map_or (is_among n) o false) e
  in_ (Some d) e s = ap (λ (o : Option NumberSet). option_map_or (is_among n) o false) e ∙ member d (numbers_of d) refl s

-- what stands in a directory
module _ (at below : Standing) (index : PlaceIndex) (is : ArePlacesOf at below index) (dir : ℕ) where
  -- the maps have it
  pub in-maps : (n : ℕ) → StandsIn below dir n → StandsIn at dir n
  in-maps n w = (w.0, below-stands below at index.latest is.latest dir w.0 n w.1)

  -- or it was inserted last
  pub in-latest : (link : Link) → index.latest ≡ Some link → link.dir ≡ dir → StandsIn at dir link.number
  in-latest link e d =
      let adds : AddsLatest below (Some link) at = subst (λ (o : Option Link). AddsLatest below o at) e is.latest in
      (adds.0, ap (λ (x : ℕ). at x adds.0) (sym d) ∙ latest-stands below at link adds)

  -- a directory in which the link that was inserted last stands
  pub names-latest : is_latest_in index.latest dir ≡ true → (n : ℕ) × StandsIn at dir n
  names-latest t = in_ index.latest refl t where
    in_ : (o : Option Link) → index.latest ≡ o → is_latest_in o dir ≡ true → (n : ℕ) × StandsIn at dir n
    in_ None e s = let no : ⊥ = cc in absurd no
    in_ (Some link) e s = (link.number, in-latest link e (true-eq link.dir dir s))

module _ (at : Standing) (index : DirectoryIndex) (is : IsIndexOf at index) (dir : ℕ) where
  below-in : (n : ℕ) → StandsIn is.below dir n → StandsIn at dir n
  below-in n w = in-maps at is.below index.places is.places dir n w

  latest-in : (link : Link) → index.places.latest ≡ Some link → link.dir ≡ dir → StandsIn at dir link.number
  latest-in link e d = in-latest at is.below index.places is.places dir link e d

  -- the maps have a number there
  pub names-some : has_children index.children dir ≡ true → (n : ℕ) × StandsIn at dir n
  names-some t = let w = some-child index.children dir t in (w.0, below-in w.0 (is.children.no_others dir w.0 w.1))

  child-or-latest : (n : ℕ) → StandsIn at dir n → (is_child index.children dir n ≡ true) ⊎ ((link : Link) × (index.places.latest ≡ Some link) × (link.number ≡ n) × (link.dir ≡ dir))
  child-or-latest n w = in_ (stands-either is.below at index.places.latest is.places.latest dir w.0 n w.1) where
    in_ : (is.below dir w.0 ≡ Some n) ⊎ ((link : Link) × (index.places.latest ≡ Some link) × (link.number ≡ n) × (link.dir ≡ dir) × (link.key ≡ key_of dir w.0)) → (is_child index.children dir n ≡ true) ⊎ ((link : Link) × (index.places.latest ≡ Some link) × (link.number ≡ n) × (link.dir ≡ dir))
    in_ (inl e) = inl (is.children.each dir n (w.0, e))
    in_ (inr v) = inr (v.0, v.1, v.2, v.3)

  -- or nothing stands there
  pub names-none : is_latest_in index.places.latest dir ≡ false → has_children index.children dir ≡ false → (name : List ℕ) → at dir name ≡ None
  names-none no_latest no_children name = in_ (at dir name) refl where
    none : (n : ℕ) → (is_child index.children dir n ≡ true) ⊎ ((link : Link) × (index.places.latest ≡ Some link) × (link.number ≡ n) × (link.dir ≡ dir)) → ⊥
    none n (inl t) = let f = no-child index.children dir n no_children in let no : ⊥ = cc in no
    none n (inr w) = let t : is_latest_in index.places.latest dir ≡ true = ap (λ (o : Option Link). is_latest_in o dir) w.1 ∙ eq-true w.0.dir dir w.3 in let no : ⊥ = cc in no

    in_ : (o : Option ℕ) → at dir name ≡ o → at dir name ≡ None
    in_ None e = e
    in_ (Some n) e = absurd (none n (child-or-latest n (name, e)))

  -- the link that was inserted last, from a number on
  latest-some : (least n : ℕ) → latest_from index.places.latest dir least ≡ Some n → StandsIn at dir n × (least ≤ n)
  latest-some least n t = in_ index.places.latest refl t where
    in_ : (o : Option Link) → index.places.latest ≡ o → latest_from o dir least ≡ Some n → StandsIn at dir n × (least ≤ n)
    in_ None e s = let no : ⊥ = cc in absurd no
    in_ (Some link) e s = test (link.dir == dir && nat_le least link.number) refl s where
      test : (b : Bool) → (link.dir == dir && nat_le least link.number) ≡ b → (if b then Some link.number else None) ≡ Some n → StandsIn at dir n × (least ≤ n)
      test true u v =
          let both = and_parts (link.dir == dir) (nat_le least link.number) u in
          let same = same-number link.number n v in
          let bound = both.1 in
          (subst (StandsIn at dir) same (latest-in link e (true-eq link.dir dir both.0)), grind (arith, nat_tests))
      test false u v = let no : ⊥ = cc in absurd no

  latest-none : (least n : ℕ) → latest_from index.places.latest dir least ≡ None → (link : Link) × (index.places.latest ≡ Some link) × (link.number ≡ n) × (link.dir ≡ dir) → least ≤ n → ⊥
  latest-none least n t w bound =
      let d = eq-true w.0.dir dir w.3 in
      let b : nat_le least w.0.number ≡ true = grind (arith, nat_tests) in
      let some : latest_from index.places.latest dir least ≡ Some w.0.number = ap (λ (o : Option Link). latest_from o dir least) w.1 ∙ (rw (d, b) refl) in
      let no : ⊥ = cc in no

  -- the first of both
  pub first-both : (least child number first : ℕ) → IsFirstChild index.children dir least (Some child) → latest_from index.places.latest dir least ≡ Some number →
      first ≡ min child number → IsFirstFrom at dir least (Some first)
  first-both least child number first children latest is_min =
      let l = latest-some least number latest in
      let is_one = min-one child number first is_min in
      let below_child : first ≤ child = omega arith in
      let below_number : first ≤ number = omega arith in
      let c = below-in child (is.children.no_others dir child children.0) in
      let one = one_in is_one c l.0 in
      let bound = bound_in is_one children.1 l.1 in
      (one, bound, λ other w up. least_in below_child below_number other up (child-or-latest other w)) where
        one_in : (first ≡ child) ⊎ (first ≡ number) → StandsIn at dir child → StandsIn at dir number → StandsIn at dir first
        one_in (inl e) a b = subst (StandsIn at dir) (sym e) a
        one_in (inr e) a b = subst (StandsIn at dir) (sym e) b

        bound_in : (first ≡ child) ⊎ (first ≡ number) → least ≤ child → least ≤ number → least ≤ first
        bound_in (inl e) a b = omega arith
        bound_in (inr e) a b = omega arith

        least_in : first ≤ child → first ≤ number → (other : ℕ) → least ≤ other → (is_child index.children dir other ≡ true) ⊎ ((link : Link) × (index.places.latest ≡ Some link) × (link.number ≡ other) × (link.dir ≡ dir)) → first ≤ other
        least_in a b' other up (inl t) = let more = children.2 other t up in omega arith
        least_in a b' other up (inr w) =
            let d = eq-true w.0.dir dir w.3 in
            let same = w.2 in
            let b : nat_le least w.0.number ≡ true = grind (arith, nat_tests) in
            let some : latest_from index.places.latest dir least ≡ Some w.0.number = ap (λ (o : Option Link). latest_from o dir least) w.1 ∙ (rw (d, b) refl) in
            let number_is = same-number number w.0.number (sym latest ∙ some) in
            omega arith

  -- the maps' first, where no link stands beside them
  pub first-child : (least child : ℕ) → IsFirstChild index.children dir least (Some child) → latest_from index.places.latest dir least ≡ None → IsFirstFrom at dir least (Some child)
  first-child least child children none =
      (below-in child (is.children.no_others dir child children.0), children.1, λ other w up. least_in other up (child-or-latest other w)) where
        least_in : (other : ℕ) → least ≤ other → (is_child index.children dir other ≡ true) ⊎ ((link : Link) × (index.places.latest ≡ Some link) × (link.number ≡ other) × (link.dir ≡ dir)) → child ≤ other
        least_in other up (inl t) = children.2 other t up
        least_in other up (inr w) = absurd (latest-none least other none w up)

  -- or that link, where the maps have none
  pub first-latest : (least : ℕ) → IsFirstChild index.children dir least None → IsFirstFrom at dir least (latest_from index.places.latest dir least)
  first-latest least none = in_ (latest_from index.places.latest dir least) refl where
    no_child : (other : ℕ) → least ≤ other → is_child index.children dir other ≡ true → ⊥
    no_child other up t = let f = none other up in let no : ⊥ = cc in no

    in_ : (o : Option ℕ) → latest_from index.places.latest dir least ≡ o → IsFirstFrom at dir least o
    in_ None e = λ other w up. other_in other up (child-or-latest other w) where
      other_in : (other : ℕ) → least ≤ other → (is_child index.children dir other ≡ true) ⊎ ((link : Link) × (index.places.latest ≡ Some link) × (link.number ≡ other) × (link.dir ≡ dir)) → ⊥
      other_in other up (inl t) = no_child other up t
      other_in other up (inr w) = latest-none least other e w up
    in_ (Some n) e = let l = latest-some least n e in (l.0, l.1, λ other w up. other_in other up (child-or-latest other w)) where
      other_in : (other : ℕ) → least ≤ other → (is_child index.children dir other ≡ true) ⊎ ((link : Link) × (index.places.latest ≡ Some link) × (link.number ≡ other) × (link.dir ≡ dir)) → n ≤ other
      other_in other up (inl t) = absurd (no_child other up t)
      other_in other up (inr w) =
          let d = eq-true w.0.dir dir w.3 in
          let same = w.2 in
          let b : nat_le least w.0.number ≡ true = grind (arith, nat_tests) in
          let some : latest_from index.places.latest dir least ≡ Some w.0.number = ap (λ (o : Option Link). latest_from o dir least) w.1 ∙ (rw (d, b) refl) in
          let number_is = same-number n w.0.number (sym e ∙ some) in
          omega arith

-- an option that is no number is none
pub missed-none : (o : Option ℕ) → ((n : ℕ) → o ≡ Some n → ⊥) → o ≡ None
missed-none None other = refl
missed-none (Some n) other = absurd (other n refl)
