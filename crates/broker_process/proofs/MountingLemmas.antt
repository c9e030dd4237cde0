-- Lemmas on the lines of mounts, one mount after another.
use Rattle.std.proofs.Common.{◌≡◌, ◌⊎◌, ℕ, List, [], ◌∷◌, ◌++◌, Option, Err, inl, inr, refl, sym, ap, subst, ◌∙◌}
use Rattle.std.specs.Prelude.{map}
use Rattle.std.specs.Io.KnownBytes.{Appends}
use Rattle.std.specs.List.{concat}
use Rattle.std.proofs.KnownBytes.{Appends-trans}
use Rattle.std.proofs.lemmas.List.{append-nil, map-append}
use Rattle.std.proofs.lemmas.List.Folds.{concat-append}
use Rattle.broker_process.specs.Mounting.{PrintsDead, PrintsMount, PrintsThen, RunsMount, end_line, lines_by, mounted_line}
use Rattle.broker_process.specs.declared.fault.MountRunFault.{MountRunFault}
use Rattle.broker_process.specs.declared.service.MountEnd.{MountEnd}
use Rattle.broker_process.specs.declared.service.MountEnd.TheVariants.{Unmounted, Dead}

-- what a fault leaves printed, whichever it is
abbrev Left : Option (List ℕ) → Option (List ℕ) → Type 0
Left old new = PrintsDead old new ⊎ PrintsThen mounted_line old new

-- nothing more, after the lines of dead mounts
dead-same : (old mid new : Option (List ℕ)) → PrintsDead old mid → Appends mid new [] → PrintsDead old new
dead-same old mid new was nothing =
    (was.0, subst (Appends old new) (append-nil (concat (map (lines_by Dead) was.0))) (Appends-trans old mid new (concat (map (lines_by Dead) was.0)) [] was.1 nothing))

-- what is left printed where one more mount fails
left-by : (generation : ℕ) (old mid new : Option (List ℕ)) → PrintsDead old mid → Appends mid new [] ⊎ Appends mid new (mounted_line generation) → Left old new
left-by generation old mid new was (inl nothing) = inl (dead-same old mid new was nothing)
left-by generation old mid new was (inr line) = inr (mid, was, (generation, line))

-- one more mount fails
pub then-fails : (generation : ℕ) (fault : MountRunFault) (old mid new : Option (List ℕ)) → PrintsDead old mid → PrintsMount generation (Err fault) mid new → RunsMount (Err fault) old new
then-fails generation fault old mid new was prints = left-by generation old mid new was prints

-- both lines of a mount
both-lines : (generation : ℕ) (end : MountEnd) (old mid new : Option (List ℕ)) → Appends old mid (mounted_line generation) → Appends mid new (end_line end) → Appends old new (lines_by end generation)
both-lines generation end old mid new first then = Appends-trans old mid new (mounted_line generation) (end_line end) first then

-- one more mount dies
dead-more : (generation : ℕ) (old mid new : Option (List ℕ)) → PrintsDead old mid → Appends mid new (lines_by Dead generation) → PrintsDead old new
dead-more generation old mid new was lines =
    let before : List (List ℕ) = map (lines_by Dead) was.0 in
    let joined : concat (map (lines_by Dead) (was.0 ++ generation ∷ [])) ≡ concat before ++ lines_by Dead generation =
    ap (λ (all : List (List ℕ)). concat all) (map-append (lines_by Dead) was.0 (generation ∷ []))
    ∙ concat-append before (lines_by Dead generation ∷ []) ∙ ap (λ (last : List ℕ). concat before ++ last) (append-nil (lines_by Dead generation)) in
    (was.0 ++ generation ∷ [], subst (Appends old new) (sym joined) (Appends-trans old mid new (concat before) (lines_by Dead generation) was.1 lines))

-- the line of a mount's end was printed
appended : (end known : MountEnd) (between new : Option (List ℕ)) → end ≡ known → Appends between new (end_line end) → Appends between new (end_line known)
appended end known between new same line = subst (Appends between new) (ap end_line same) line

-- somebody unmounted, and that was printed
pub ends-well : (generation : ℕ) (end : MountEnd) (old mid between new : Option (List ℕ)) →
    PrintsDead old mid → Appends mid between (mounted_line generation) → end ≡ Unmounted → Appends between new (end_line end) →
    PrintsThen (lines_by Unmounted) old new
ends-well generation end old mid between new was first same line =
    (mid, was, (generation, both-lines generation Unmounted mid between new first (appended end Unmounted between new same line)))

-- a daemon died, and that was printed
pub goes-on : (generation : ℕ) (end : MountEnd) (old mid between new : Option (List ℕ)) →
    PrintsDead old mid → Appends mid between (mounted_line generation) → end ≡ Dead → Appends between new (end_line end) →
    PrintsDead old new
goes-on generation end old mid between new was first same line =
    dead-more generation old mid new was (both-lines generation Dead mid between new first (appended end Dead between new same line))
