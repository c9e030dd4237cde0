-- What a daemon printed, round after round and at its end.
use Rattle.std.proofs.Common.{◌≡◌, ℕ, Bool, true, false, List, [], ◌∷◌, ◌++◌, Option, inl, inr, refl, sym, ap, subst, ◌∙◌}
use Rattle.std.specs.Prelude.{map}
use Rattle.std.specs.Io.KnownBytes.{Appends}
use Rattle.std.specs.List.{concat}
use Rattle.std.proofs.KnownBytes.{Appends-nil, Appends-trans}
use Rattle.std.proofs.lemmas.List.{append-nil, map-append}
use Rattle.std.proofs.lemmas.List.Folds.{concat-append}
use Rattle.daemon_process.specs.Ending.{MayEnd, PrintsServing}
use Rattle.daemon_process.specs.Serving.{PrintsRound, Spell, begins, printed_of, serving_line}
use Rattle.daemon_process.specs.declared.exit.DaemonEnd.{DaemonEnd}
use Rattle.daemon_process.specs.declared.exit.DaemonEnd.TheVariants.{Closed, Exits}

pub serving-none : (known : Option (List ℕ)) → PrintsServing known known
serving-none known = ([], Appends-nil known)

-- nothing more
serving-same : (old mid new : Option (List ℕ)) → PrintsServing old mid → Appends mid new [] → PrintsServing old new
serving-same old mid new was nothing =
    (was.0, subst (Appends old new) (append-nil (concat (map serving_line was.0))) (Appends-trans old mid new (concat (map serving_line was.0)) [] was.1 nothing))

-- a line more
serving-more : (generation : ℕ) (old mid new : Option (List ℕ)) → PrintsServing old mid → Appends mid new (serving_line generation) → PrintsServing old new
serving-more generation old mid new was line =
    let lines : List (List ℕ) = map serving_line was.0 in
    let joined : concat (map serving_line (was.0 ++ generation ∷ [])) ≡ concat lines ++ serving_line generation =
    ap (λ (all : List (List ℕ)). concat all) (map-append serving_line was.0 (generation ∷ []))
    ∙ concat-append lines (serving_line generation ∷ []) ∙ ap (λ (last : List ℕ). concat lines ++ last) (append-nil (serving_line generation)) in
    (was.0 ++ generation ∷ [], subst (Appends old new) (sym joined) (Appends-trans old mid new (concat lines) (serving_line generation) was.1 line))

serving-line : (is_new : Bool) (generation : ℕ) (old mid new : Option (List ℕ)) → PrintsServing old mid → Appends mid new (printed_of is_new generation) → PrintsServing old new
serving-line true generation old mid new was line = serving-more generation old mid new was line
serving-line false generation old mid new was line = serving-same old mid new was line

-- a round more
pub serving-round : (was round now : Spell) (old mid new : Option (List ℕ)) → PrintsServing old mid → PrintsRound was round now mid new → PrintsServing old new
serving-round was round now old mid new served (inl unmanned) = serving-same old mid new served unmanned.nothing
serving-round was round now old mid new served (inr manned) = serving-line (begins was round) round.0 old mid new served manned.line

-- ---- what ended the daemon

-- a daemon may end so, where it closes only if it was to run until its standard input ends
pub may_end : (until_closed : Bool) (ending : DaemonEnd) → (ending ≡ Closed → until_closed ≡ true) → MayEnd until_closed ending
may_end until_closed Closed closes = closes refl
may_end until_closed (Exits exit) closes = tt
