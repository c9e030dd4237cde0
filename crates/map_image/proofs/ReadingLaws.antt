-- From stage to stage: what is resumed after a step is what was resumed before it.
use Rattle.std.proofs.Common.{◌≡◌, ℕ, ◌<◌, Bool, true, false, eqb, ltb, List, [], ◌++◌, length, Some, Result, Ok, Err, inl, inr, refl, sym, ap, ◌∙◌, length-append, arith}
use Rattle.std.proofs.lemmas.Bool.Decides.{nat_tests}
use Rattle.byte_codec.specs.Reading.{◌>>=◌, number_at}
use Rattle.checkout.specs.declared.changes.Made.{Made}
use Rattle.manifest.specs.declared.link_change.LinkChange.{LinkChange}
use Rattle.entry_table.specs.declared.kept.Kept.{Kept}
use Rattle.map_image.specs.declared.fault.ImageFault.{ImageFault}
use Rattle.map_image.specs.declared.fault.ImageFault.TheVariants as faults
use Rattle.map_image.specs.declared.header.ImageHeader.{ImageHeader}
use Rattle.map_image.specs.declared.image.Image.{Image}
use Rattle.map_image.specs.declared.reading.Front.{Front}
use Rattle.map_image.specs.declared.reading.Reading.{Reading}
use Rattle.map_image.specs.declared.reading.Stage.{Stage}
use Rattle.map_image.specs.declared.reading.Stage.TheVariants.{AtFront, AtEntries, AtMade, AtLinks}
use Rattle.map_image.specs.declared.version.VersionForm.{VersionForm}
use Rattle.map_image.specs.ImageReading.{are_of_use, entry_at, image_with, link_at, made_at, seen_whole}
use Rattle.map_image.specs.Versions.{length_width}
use Rattle.map_image.specs.Feeding.{GoesOn, GoesOnIn, IsRefused, IsRefusedIn, Member, Stops, StopsIn, front_at, lasting, links_on, made_on, members_from, resumed, resumed_at}
use Rattle.map_image.proofs.Loop.{none_on}
use Rattle.map_image.proofs.SteadyLaws.{steady_number}
use Rattle.map_image.proofs.SteadyMembers.{steady_front}

-- ---- the stage of a reader

pub at_stage : (r : Reading) (stage : Stage) (bytes : List ℕ) → r.stage ≡ stage → resumed r bytes ≡ resumed_at stage r.entries.items r.made.items r.links.items bytes
unfolding resumed
at_stage r stage bytes is = ap (λ (s : Stage). resumed_at s r.entries.items r.made.items r.links.items bytes) is

pub same_lists : (stage : Stage) (es es' : List Kept) (ms ms' : List Made) (ls ls' : List LinkChange) (bytes : List ℕ) → es' ≡ es → ms' ≡ ms → ls' ≡ ls → resumed_at stage es ms ls bytes ≡ resumed_at stage es' ms' ls' bytes
same_lists stage es es' ms ms' ls ls' bytes e m l =
    ap (λ (x : List Kept). resumed_at stage x ms ls bytes) (sym e)
    ∙ ap (λ (x : List Made). resumed_at stage es' x ls bytes) (sym m)
    ∙ ap (λ (x : List LinkChange). resumed_at stage es' ms' x bytes) (sym l)

-- a step from one stage to another, by what both resume
stepped : (old new : Reading) (before after : Stage) (bytes rest : List ℕ) → old.stage ≡ before → new.stage ≡ after
    → ((more : List ℕ) → resumed_at before old.entries.items old.made.items old.links.items (bytes ++ more) ≡ resumed_at after new.entries.items new.made.items new.links.items (rest ++ more)) → GoesOn old bytes new rest
stepped old new before after bytes rest was is goes = λ more. at_stage old before (bytes ++ more) was ∙ goes more ∙ sym (at_stage new after (rest ++ more) is)

cut_at : (r : Reading) (stage : Stage) (rest : List ℕ) → r.stage ≡ stage → resumed_at stage r.entries.items r.made.items r.links.items rest ≡ Err faults.Short → resumed r rest ≡ Err faults.Short
cut_at r stage rest is cut = at_stage r stage rest is ∙ cut

refused_at : (old : Reading) (stage : Stage) (bytes : List ℕ) (fault : ImageFault) → old.stage ≡ stage → lasting fault ≡ Some fault → ((more : List ℕ) → resumed_at stage old.entries.items old.made.items old.links.items (bytes ++ more) ≡ Err fault) → IsRefused old bytes fault
refused_at old stage bytes fault was lasts fails = record { lasts = lasts; fails = λ more. at_stage old stage (bytes ++ more) was ∙ fails more }

-- a fault within a list is one of the image
stop_as : {X : Type 0} (member : Member X) (done : List X) (count : ℕ) (old : Reading) (bytes : List ℕ) (fault : ImageFault) → ((f : ImageFault) → IsRefusedIn member done count bytes f → IsRefused old bytes f) → StopsIn member done count bytes fault → Stops old bytes fault
stop_as member done count old bytes faults.NoMemory as_ r = tt
stop_as member done count old bytes faults.BadMagic as_ r = as_ faults.BadMagic r
stop_as member done count old bytes faults.BadVersion as_ r = as_ faults.BadVersion r
stop_as member done count old bytes faults.Short as_ r = as_ faults.Short r
stop_as member done count old bytes faults.Rest as_ r = as_ faults.Rest r
stop_as member done count old bytes faults.NotRising as_ r = as_ faults.NotRising r
stop_as member done count old bytes faults.BadName as_ r = as_ faults.BadName r
stop_as member done count old bytes faults.BadMark as_ r = as_ faults.BadMark r
stop_as member done count old bytes faults.ZeroUse as_ r = as_ faults.ZeroUse r

-- ---- the front

pub front_on : (old new : Reading) (front : Front) (bytes rest : List ℕ) → old.stage ≡ AtFront → new.stage ≡ AtEntries front.form front.header front.count → new.entries.items ≡ old.entries.items → new.made.items ≡ old.made.items → new.links.items ≡ old.links.items
    → front_at bytes ≡ Ok (front, rest) → GoesOn old bytes new rest
front_on old new front bytes rest was is es ms ls read =
    stepped old new AtFront (AtEntries front.form front.header front.count) bytes rest was is (λ more.
    let longer : front_at (bytes ++ more) ≡ Ok (front, rest ++ more) = steady_front.stays bytes (front, rest) read more in
    let one : resumed_at AtFront old.entries.items old.made.items old.links.items (bytes ++ more) ≡ resumed_at (AtEntries front.form front.header front.count) old.entries.items old.made.items old.links.items (rest ++ more) = rw longer refl in
    one ∙ same_lists (AtEntries front.form front.header front.count) old.entries.items new.entries.items old.made.items new.made.items old.links.items new.links.items (rest ++ more) es ms ls)

pub front_cut : (old : Reading) (bytes : List ℕ) → old.stage ≡ AtFront → front_at bytes ≡ Err faults.Short → resumed old bytes ≡ Err faults.Short
front_cut old bytes was read = cut_at old AtFront bytes was (rw read refl)

pub front_refused : (old : Reading) (bytes : List ℕ) (fault : ImageFault) → old.stage ≡ AtFront → (fault ≡ faults.Short → ⊥) → front_at bytes ≡ Err fault → IsRefused old bytes fault
front_refused old bytes fault was other read =
    elim (steady_front.fault bytes fault read) [
      | inl short ↦ absurd (other short)
      | inr stands ↦ refused_at old AtFront bytes fault was stands.lasts (λ more. rw (stands.fails more) refl)
    ]

pub refused_stops : (old : Reading) (bytes : List ℕ) (fault : ImageFault) → IsRefused old bytes fault → Stops old bytes fault
refused_stops old bytes faults.NoMemory r = tt
refused_stops old bytes faults.BadMagic r = r
refused_stops old bytes faults.BadVersion r = r
refused_stops old bytes faults.Short r = r
refused_stops old bytes faults.Rest r = r
refused_stops old bytes faults.NotRising r = r
refused_stops old bytes faults.BadName r = r
refused_stops old bytes faults.BadMark r = r
refused_stops old bytes faults.ZeroUse r = r

-- ---- a list, and the count of the next one

-- what follows a list
abbrev Behind : Type 0 → Type 0
Behind X = List X × List ℕ → Result Image ImageFault

list_on : {X : Type 0} (member : Member X) (behind : Behind X) (old new : List X) (count left : ℕ) (bytes rest more : List ℕ) → GoesOnIn member old count bytes new left rest
    → (members_from member old count (bytes ++ more) >>= behind) ≡ (members_from member new left (rest ++ more) >>= behind)
list_on {X = X} member behind old new count left bytes rest more on = ap (λ (r : Result (List X × List ℕ) ImageFault). r >>= behind) (on.goes_on more)

list_cut : {X : Type 0} (member : Member X) (behind : Behind X) (done : List X) (left : ℕ) (rest : List ℕ) → members_from member done left rest ≡ Err faults.Short → (members_from member done left rest >>= behind) ≡ Err faults.Short
list_cut {X = X} member behind done left rest cut = ap (λ (r : Result (List X × List ℕ) ImageFault). r >>= behind) cut

list_fails : {X : Type 0} (member : Member X) (behind : Behind X) (old : List X) (count : ℕ) (bytes more : List ℕ) (fault : ImageFault) → IsRefusedIn member old count bytes fault → (members_from member old count (bytes ++ more) >>= behind) ≡ Err fault
list_fails {X = X} member behind old count bytes more fault r = ap (λ (x : Result (List X × List ℕ) ImageFault). x >>= behind) (r.fails more)

-- a list of which nothing is left
list_ended : {X : Type 0} (member : Member X) (behind : Behind X) (done : List X) (left : ℕ) (bytes : List ℕ) → left ≡ 0 → (members_from member done left bytes >>= behind) ≡ behind (done, bytes)
list_ended {X = X} member behind done left bytes none =
    ap (λ (n : ℕ). members_from member done n bytes >>= behind) none ∙ ap (λ (r : Result (List X × List ℕ) ImageFault). r >>= behind) (none_on member done bytes)

count_read : (next : ℕ → List ℕ → Result Image ImageFault) (rest after more : List ℕ) (count : ℕ) → number_at faults.Short length_width rest ≡ Ok (count, after) → (number_at faults.Short length_width (rest ++ more) >>= λ n. next n.0 n.1) ≡ next count (after ++ more)
count_read next rest after more count read = rw ((steady_number length_width).stays rest (count, after) read more) refl

count_cut : (next : ℕ → List ℕ → Result Image ImageFault) (rest : List ℕ) → number_at faults.Short length_width rest ≡ Err faults.Short → (number_at faults.Short length_width rest >>= λ n. next n.0 n.1) ≡ Err faults.Short
count_cut next rest read = rw read refl

-- ---- entries

abbrev behind_entries : ImageHeader → List Made → List LinkChange → Behind Kept
behind_entries header ms ls all = number_at faults.Short length_width all.1 >>= λ next. made_on header all.0 ms ls next.0 next.1

pub entries_go : (old new : Reading) (form : VersionForm) (header : ImageHeader) (count left : ℕ) (bytes rest : List ℕ) → old.stage ≡ AtEntries form header count → new.stage ≡ AtEntries form header left → new.made.items ≡ old.made.items → new.links.items ≡ old.links.items
    → GoesOnIn (entry_at form) old.entries.items count bytes new.entries.items left rest → GoesOn old bytes new rest
entries_go old new form header count left bytes rest was is ms ls on =
    stepped old new (AtEntries form header count) (AtEntries form header left) bytes rest was is (λ more.
    list_on (entry_at form) (behind_entries header old.made.items old.links.items) old.entries.items new.entries.items count left bytes rest more on
    ∙ same_lists (AtEntries form header left) new.entries.items new.entries.items old.made.items new.made.items old.links.items new.links.items (rest ++ more) refl ms ls)

pub entries_cut : (new : Reading) (form : VersionForm) (header : ImageHeader) (left : ℕ) (rest : List ℕ) → new.stage ≡ AtEntries form header left → members_from (entry_at form) new.entries.items left rest ≡ Err faults.Short → resumed new rest ≡ Err faults.Short
entries_cut new form header left rest is cut = cut_at new (AtEntries form header left) rest is (list_cut (entry_at form) (behind_entries header new.made.items new.links.items) new.entries.items left rest cut)

pub entries_stop : (old : Reading) (form : VersionForm) (header : ImageHeader) (count : ℕ) (bytes : List ℕ) (fault : ImageFault) → old.stage ≡ AtEntries form header count → StopsIn (entry_at form) old.entries.items count bytes fault → Stops old bytes fault
entries_stop old form header count bytes fault was stops =
    stop_as (entry_at form) old.entries.items count old bytes fault
    (λ f r. refused_at old (AtEntries form header count) bytes f was r.lasts (λ more. list_fails (entry_at form) (behind_entries header old.made.items old.links.items) old.entries.items count bytes more f r)) stops

pub entries_end : (old new : Reading) (form : VersionForm) (header : ImageHeader) (count left next : ℕ) (bytes rest after : List ℕ) → old.stage ≡ AtEntries form header count → new.stage ≡ AtMade header next → new.made.items ≡ old.made.items → new.links.items ≡ old.links.items → left ≡ 0
    → GoesOnIn (entry_at form) old.entries.items count bytes new.entries.items left rest → number_at faults.Short length_width rest ≡ Ok (next, after) → GoesOn old bytes new after
entries_end old new form header count left next bytes rest after was is ms ls none on read =
    stepped old new (AtEntries form header count) (AtMade header next) bytes after was is (λ more.
    list_on (entry_at form) (behind_entries header old.made.items old.links.items) old.entries.items new.entries.items count left bytes rest more on
    ∙ list_ended (entry_at form) (behind_entries header old.made.items old.links.items) new.entries.items left (rest ++ more) none
    ∙ count_read (made_on header new.entries.items old.made.items old.links.items) rest after more next read
    ∙ same_lists (AtMade header next) new.entries.items new.entries.items old.made.items new.made.items old.links.items new.links.items (after ++ more) refl ms ls)

pub entries_wait : (new : Reading) (form : VersionForm) (header : ImageHeader) (left : ℕ) (rest : List ℕ) → new.stage ≡ AtEntries form header left → left ≡ 0 → number_at faults.Short length_width rest ≡ Err faults.Short → resumed new rest ≡ Err faults.Short
entries_wait new form header left rest is none read =
    cut_at new (AtEntries form header left) rest is (
    list_ended (entry_at form) (behind_entries header new.made.items new.links.items) new.entries.items left rest none
    ∙ count_cut (made_on header new.entries.items new.made.items new.links.items) rest read)

-- ---- made files

abbrev behind_made : ImageHeader → List Kept → List LinkChange → Behind Made
behind_made header es ls all = number_at faults.Short length_width all.1 >>= λ next. links_on header es all.0 ls next.0 next.1

pub made_go : (old new : Reading) (header : ImageHeader) (count left : ℕ) (bytes rest : List ℕ) → old.stage ≡ AtMade header count → new.stage ≡ AtMade header left → new.entries.items ≡ old.entries.items → new.links.items ≡ old.links.items
    → GoesOnIn made_at old.made.items count bytes new.made.items left rest → GoesOn old bytes new rest
made_go old new header count left bytes rest was is es ls on =
    stepped old new (AtMade header count) (AtMade header left) bytes rest was is (λ more.
    list_on made_at (behind_made header old.entries.items old.links.items) old.made.items new.made.items count left bytes rest more on
    ∙ same_lists (AtMade header left) old.entries.items new.entries.items new.made.items new.made.items old.links.items new.links.items (rest ++ more) es refl ls)

pub made_cut : (new : Reading) (header : ImageHeader) (left : ℕ) (rest : List ℕ) → new.stage ≡ AtMade header left → members_from made_at new.made.items left rest ≡ Err faults.Short → resumed new rest ≡ Err faults.Short
made_cut new header left rest is cut = cut_at new (AtMade header left) rest is (list_cut made_at (behind_made header new.entries.items new.links.items) new.made.items left rest cut)

pub made_stop : (old : Reading) (header : ImageHeader) (count : ℕ) (bytes : List ℕ) (fault : ImageFault) → old.stage ≡ AtMade header count → StopsIn made_at old.made.items count bytes fault → Stops old bytes fault
made_stop old header count bytes fault was stops =
    stop_as made_at old.made.items count old bytes fault
    (λ f r. refused_at old (AtMade header count) bytes f was r.lasts (λ more. list_fails made_at (behind_made header old.entries.items old.links.items) old.made.items count bytes more f r)) stops

pub made_end : (old new : Reading) (header : ImageHeader) (count left next : ℕ) (bytes rest after : List ℕ) → old.stage ≡ AtMade header count → new.stage ≡ AtLinks header next → new.entries.items ≡ old.entries.items → new.links.items ≡ old.links.items → left ≡ 0
    → GoesOnIn made_at old.made.items count bytes new.made.items left rest → number_at faults.Short length_width rest ≡ Ok (next, after) → GoesOn old bytes new after
made_end old new header count left next bytes rest after was is es ls none on read =
    stepped old new (AtMade header count) (AtLinks header next) bytes after was is (λ more.
    list_on made_at (behind_made header old.entries.items old.links.items) old.made.items new.made.items count left bytes rest more on
    ∙ list_ended made_at (behind_made header old.entries.items old.links.items) new.made.items left (rest ++ more) none
    ∙ count_read (links_on header old.entries.items new.made.items old.links.items) rest after more next read
    ∙ same_lists (AtLinks header next) old.entries.items new.entries.items new.made.items new.made.items old.links.items new.links.items (after ++ more) es refl ls)

pub made_wait : (new : Reading) (header : ImageHeader) (left : ℕ) (rest : List ℕ) → new.stage ≡ AtMade header left → left ≡ 0 → number_at faults.Short length_width rest ≡ Err faults.Short → resumed new rest ≡ Err faults.Short
made_wait new header left rest is none read =
    cut_at new (AtMade header left) rest is (
    list_ended made_at (behind_made header new.entries.items new.links.items) new.made.items left rest none
    ∙ count_cut (links_on header new.entries.items new.made.items new.links.items) rest read)

-- ---- changed links

abbrev behind_links : ImageHeader → List Kept → List Made → Behind LinkChange
behind_links header es ms all = seen_whole (image_with header es (record { made = ms; links = all.0; next_file = record { 0 = header.next_file } }), all.1)

pub links_go : (old new : Reading) (header : ImageHeader) (count left : ℕ) (bytes rest : List ℕ) → old.stage ≡ AtLinks header count → new.stage ≡ AtLinks header left → new.entries.items ≡ old.entries.items → new.made.items ≡ old.made.items
    → GoesOnIn link_at old.links.items count bytes new.links.items left rest → GoesOn old bytes new rest
links_go old new header count left bytes rest was is es ms on =
    stepped old new (AtLinks header count) (AtLinks header left) bytes rest was is (λ more.
    list_on link_at (behind_links header old.entries.items old.made.items) old.links.items new.links.items count left bytes rest more on
    ∙ same_lists (AtLinks header left) old.entries.items new.entries.items old.made.items new.made.items new.links.items new.links.items (rest ++ more) es ms refl)

pub links_cut : (new : Reading) (header : ImageHeader) (left : ℕ) (rest : List ℕ) → new.stage ≡ AtLinks header left → members_from link_at new.links.items left rest ≡ Err faults.Short → resumed new rest ≡ Err faults.Short
links_cut new header left rest is cut = cut_at new (AtLinks header left) rest is (list_cut link_at (behind_links header new.entries.items new.made.items) new.links.items left rest cut)

pub links_stop : (old : Reading) (header : ImageHeader) (count : ℕ) (bytes : List ℕ) (fault : ImageFault) → old.stage ≡ AtLinks header count → StopsIn link_at old.links.items count bytes fault → Stops old bytes fault
links_stop old header count bytes fault was stops =
    stop_as link_at old.links.items count old bytes fault
    (λ f r. refused_at old (AtLinks header count) bytes f was r.lasts (λ more. list_fails link_at (behind_links header old.entries.items old.made.items) old.links.items count bytes more f r)) stops

-- bytes after the last field
some_behind : (bytes more : List ℕ) → 0 < length bytes → ltb 0 (length (bytes ++ more)) ≡ true
some_behind bytes more lt = let longer = length-append bytes more in grind (arith, nat_tests)

rest_seen : (image : Image) (bytes more : List ℕ) → 0 < length bytes → seen_whole (image, bytes ++ more) ≡ Err faults.Rest
rest_seen image bytes more lt = rw (some_behind bytes more lt) refl

pub some_there : (bytes : List ℕ) (is_empty : Bool) → is_empty ≡ eqb (length bytes) 0 → is_empty ≡ false → 0 < length bytes
some_there bytes is_empty is not = let some : eqb (length bytes) 0 ≡ false = sym is ∙ not in grind (arith, nat_tests)

pub links_rest : (old : Reading) (links : List LinkChange) (header : ImageHeader) (count left : ℕ) (bytes rest : List ℕ) → old.stage ≡ AtLinks header count → left ≡ 0 → 0 < length rest
    → GoesOnIn link_at old.links.items count bytes links left rest → IsRefused old bytes faults.Rest
links_rest old links header count left bytes rest was none lt on =
    refused_at old (AtLinks header count) bytes faults.Rest was refl (λ more.
    list_on link_at (behind_links header old.entries.items old.made.items) old.links.items links count left bytes rest more on
    ∙ list_ended link_at (behind_links header old.entries.items old.made.items) links left (rest ++ more) none
    ∙ rest_seen (image_with header old.entries.items (record { made = old.made.items; links = links; next_file = record { 0 = header.next_file } })) rest more lt)

-- ---- the end

at_end : (r : Reading) (header : ImageHeader) (left : ℕ) → r.stage ≡ AtLinks header left → left ≡ 0 → resumed r [] ≡ behind_links header r.entries.items r.made.items (r.links.items, [])
at_end r header left is none = at_stage r (AtLinks header left) [] is ∙ list_ended link_at (behind_links header r.entries.items r.made.items) r.links.items left [] none

pub all_used : (r : Reading) (header : ImageHeader) (left : ℕ) → r.stage ≡ AtLinks header left → left ≡ 0 → are_of_use r.entries.items ≡ true
    → resumed r [] ≡ Ok (image_with header r.entries.items (record { made = r.made.items; links = r.links.items; next_file = record { 0 = header.next_file } }))
all_used r header left is none used = at_end r header left is none ∙ rw used refl

pub not_used : (r : Reading) (header : ImageHeader) (left : ℕ) → r.stage ≡ AtLinks header left → left ≡ 0 → are_of_use r.entries.items ≡ false → resumed r [] ≡ Err faults.ZeroUse
not_used r header left is none used = at_end r header left is none ∙ rw used refl
