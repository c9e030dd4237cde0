-- One bad value for each cause, its neighbours in the order of causes, and values that are good in spite of their looks.
use Rattle.std.proofs.Common.{◌≡◌, ◌<◌, ◌^◌, ℕ, zero, suc, List, [], ◌∷◌, codes, Some, None, refl, inl, arith, slice_get}
use Rattle.eden_base.specs.declared.attr.MadeKind.TheVariants.{Dir, File as RegularFile}
use Rattle.checkout.specs.declared.changes.Changes.{Changes}
use Rattle.manifest.specs.declared.link_change.LinkChange.{LinkChange}
use Rattle.checkout.specs.BadChanges.{Link, changed_links, IsAboveItself, IsBadChange}
use Rattle.checkout.proofs.BadChangeRows.{changes, else_cut, file, gives, gone, gone_is_not, leaf_is_not, made, none_above, small}

-- before the second link there is one that is gone
first_is_gone : (links : List Link) (dir : ℕ) (name : List ℕ) (more : List LinkChange) (j : ℕ) (other : LinkChange) → j < 1 → slice_get (gone dir name ∷ more) j ≡ Some other → IsAboveItself links other → ⊥
first_is_gone links dir name more zero other below h above = none_above links (gone dir name ∷ []) (gone_is_not links dir name, tt) 0 other h above
first_is_gone links dir name more (suc j) other below h above = omega (arith, below)

-- no file comes after the last that may be
next_too_high : IsBadChange small (changes [] [] (2 ^ 63)) (Some 0)
next_too_high = refl

-- the next file comes before all others
next_first : IsBadChange small (changes (made 5 RegularFile ∷ []) (gives 1 (codes "z") 9 ∷ []) 5) (Some 0)
next_first = refl

-- made files fall
made_falls : IsBadChange small (changes (made 7 RegularFile ∷ made 6 RegularFile ∷ []) [] 8) (Some 2)
made_falls = refl

-- one is made twice
made_twice : IsBadChange small (changes (made 6 RegularFile ∷ made 6 Dir ∷ []) [] 8) (Some 2)
made_twice = refl

-- the manifest has it
made_of_the_manifest : IsBadChange small (changes (made 5 RegularFile ∷ []) [] 6) (Some 1)
made_of_the_manifest = refl

-- it would be made next
made_next : IsBadChange small (changes (made 6 RegularFile ∷ []) [] 6) (Some 1)
made_next = refl

-- made files come before links
made_first : IsBadChange small (changes (made 5 RegularFile ∷ []) (gives 1 (codes "z") 9 ∷ []) 6) (Some 1)
made_first = refl

-- directories fall
directories_fall : IsBadChange small (changes [] (gone 2 (codes "a") ∷ gone 1 (codes "README") ∷ []) 6) (Some 2)
directories_fall = refl

-- names of one directory fall
names_fall : IsBadChange small (changes [] (gone 2 (codes "b") ∷ gone 2 (codes "a") ∷ []) 6) (Some 2)
names_fall = refl

-- a name stands twice
name_twice : IsBadChange small (changes [] (gone 2 (codes "a") ∷ gone 2 (codes "a") ∷ []) 6) (Some 2)
name_twice = refl

-- a regular file is no directory
in_a_file : IsBadChange small (changes (made 6 RegularFile ∷ []) (gives 3 (codes "x") 6 ∷ []) 7) (Some 2)
in_a_file = refl

-- nor is what is no file
in_no_file : IsBadChange small (changes (made 6 RegularFile ∷ []) (gives 9 (codes "x") 6 ∷ []) 7) (Some 2)
in_no_file = refl

-- nor was a regular file made as one
in_a_made_file : IsBadChange small (changes (made 6 RegularFile ∷ made 7 RegularFile ∷ []) (gives 6 (codes "x") 7 ∷ []) 8) (Some 3)
in_a_made_file = refl

-- no file is to be found
to_no_file : IsBadChange small (changes [] (gives 1 (codes "z") 9 ∷ []) 6) (Some 1)
to_no_file = refl

-- no link gives the root
to_the_root : IsBadChange small (changes [] (gives 2 (codes "z") 1 ∷ []) 6) (Some 1)
to_the_root = refl

-- the manifest has that file there
no_difference : IsBadChange small (changes [] (gives 2 (codes "a") 3 ∷ []) 6) (Some 1)
no_difference = refl

-- the manifest has none there either
no_difference_without : IsBadChange small (changes [] (gone 2 (codes "z") ∷ []) 6) (Some 1)
no_difference_without = refl

-- two changed links give one file
given_twice : IsBadChange small (changes (made 6 RegularFile ∷ []) (gives 1 (codes "x") 6 ∷ gives 1 (codes "y") 6 ∷ []) 7) (Some 2)
given_twice = refl

-- a link that is bad by itself comes before an earlier one that another meets
itself_first : IsBadChange small (changes [] (gives 1 (codes "z") 3 ∷ gives 2 (codes "z") 9 ∷ []) 6) (Some 2)
itself_first = refl

-- a link that another meets comes before an earlier circle
other_before_circle : IsBadChange small (changes (made 6 Dir ∷ made 7 Dir ∷ []) (gives 6 (codes "x") 7 ∷ gives 7 (codes "y") 6 ∷ gives 7 (codes "z") 3 ∷ []) 8) (Some 5)
other_before_circle = refl

-- a directory in itself
in_itself : IsBadChange small (changes (made 6 Dir ∷ []) (gives 6 (codes "x") 6 ∷ []) 7) (Some 2)
in_itself = inl (0, gives 6 (codes "x") 6, refl, refl, (file 6, [], refl, refl), λ j other below. absurd (omega (arith, below)))

-- a directory of the manifest in itself
abbrev src_in_itself : Changes
src_in_itself = changes [] (gone 1 (codes "src") ∷ gives 2 (codes "x") 2 ∷ []) 6

moved_into_itself : IsBadChange small src_in_itself (Some 2)
moved_into_itself =
    inl (1, gives 2 (codes "x") 2, refl, refl, (file 2, [], refl, refl), first_is_gone (changed_links small src_in_itself) 1 (codes "src") (gives 2 (codes "x") 2 ∷ []))

-- a circle comes before an earlier directory that is cut off
abbrev cut_and_circle : Changes
cut_and_circle = changes (made 6 Dir ∷ []) (gone 1 (codes "src") ∷ gives 6 (codes "x") 6 ∷ []) 7

circle_before_cut : IsBadChange small cut_and_circle (Some 3)
circle_before_cut =
    inl (1, gives 6 (codes "x") 6, refl, refl, (file 6, [], refl, refl), first_is_gone (changed_links small cut_and_circle) 1 (codes "src") (gives 6 (codes "x") 6 ∷ []))

-- a made directory without a link, and a link in it
abbrev in_unlinked : Changes
in_unlinked = changes (made 6 Dir ∷ made 7 RegularFile ∷ []) (gives 6 (codes "x") 7 ∷ []) 8

made_cut_off : IsBadChange small in_unlinked (Some 3)
made_cut_off = else_cut in_unlinked (Some 3) refl (leaf_is_not (changed_links small in_unlinked) 6 7 (codes "x") (λ n. refl) refl, tt)

-- another directory in the place of one that isn't empty
abbrev src_anew : Changes
src_anew = changes (made 6 Dir ∷ []) (gives 1 (codes "src") 6 ∷ []) 7

put_in_its_place : IsBadChange small src_anew (Some 2)
put_in_its_place = else_cut src_anew (Some 2) refl (leaf_is_not (changed_links small src_anew) 1 6 (codes "src") (λ n. refl) refl, tt)

-- a directory may go with all that stood in it
abbrev all_of_src : Changes
all_of_src = changes [] (gone 1 (codes "src") ∷ gone 2 (codes "a") ∷ gone 2 (codes "b") ∷ []) 6

emptied : IsBadChange small all_of_src None
emptied =
    let links = changed_links small all_of_src in
    else_cut all_of_src None refl (gone_is_not links 1 (codes "src"), (gone_is_not links 2 (codes "a"), (gone_is_not links 2 (codes "b"), tt)))

-- and a file of the manifest may stand elsewhere
abbrev a_renamed : Changes
a_renamed = changes [] (gives 1 (codes "z") 3 ∷ gone 2 (codes "a") ∷ []) 6

moved : IsBadChange small a_renamed None
moved =
    let links = changed_links small a_renamed in
    else_cut a_renamed None refl (leaf_is_not links 1 3 (codes "z") (λ n. refl) refl, (gone_is_not links 2 (codes "a"), tt))
