-- The owner is that of the option's word, if there is one.
use Rattle.std.proofs.Common.{◌≡◌, [], ◌∷◌, Option, Some, None, if◌then◌else◌, ap, subst, sym, ◌∙◌, codes, option_and_then, option_map, inl, inr}
use Rattle.std.specs.Prelude.{is_none}
use Rattle.clap.specs.Words.{HasKind, Kinds, found_of}
use Rattle.clap.specs.declared.error.kind.ErrorKind.TheVariants as kind
use Rattle.clap.proofs.WalkLemmas.{first_value-rows}
use Rattle.command_line.specs.CommandLine.{owner_fault_of}
use Rattle.command_line.specs.Owner.{owner_of}
use Rattle.command_line.specs.declared.owner.Owner.{Owner}
use Rattle.command_line.proofs.asked.owner_in.Goals as goal

pub returns-in_default-clause-owner : goal.returns-in_default-clause-owner
returns-in_default-clause-owner c =
    sym (ap (option_and_then owner_of) (sym (c.get_str.ensures ∙ first_value-rows (found_of c.args.mount.now) (codes "owner")) ∙ ap (option_map (λ w. w.now)) c.in_default.is))

pub returns-in_default-clause-refused : goal.returns-in_default-clause-refused
returns-in_default-clause-refused c =
    ap owner_fault_of (sym (c.get_str.ensures ∙ first_value-rows (found_of c.args.mount.now) (codes "owner")) ∙ ap (option_map (λ w. w.now)) c.in_default.is)

pub returns-in-Some-read_owner-clause-owner : goal.returns-in-Some-read_owner-clause-owner
returns-in-Some-read_owner-clause-owner c =
    let first = sym (c.get_str.ensures ∙ first_value-rows (found_of c.args.mount.now) (codes "owner")) ∙ ap (option_map (λ w. w.now)) c.in-Some.is in
    let named : owner_of c.in-Some.word.now ≡ Some c.in-Some-read_owner.owner = sym (c.read_owner.ensures.owner ∙ ap owner_of c.as_bytes.ensures.value) ∙ c.in-Some-read_owner.is in
    sym (ap (option_and_then owner_of) first ∙ named)

pub returns-in-Some-read_owner-clause-refused : goal.returns-in-Some-read_owner-clause-refused
returns-in-Some-read_owner-clause-refused c =
    let first = sym (c.get_str.ensures ∙ first_value-rows (found_of c.args.mount.now) (codes "owner")) ∙ ap (option_map (λ w. w.now)) c.in-Some.is in
    let named : owner_of c.in-Some.word.now ≡ Some c.in-Some-read_owner.owner = sym (c.read_owner.ensures.owner ∙ ap owner_of c.as_bytes.ensures.value) ∙ c.in-Some-read_owner.is in
    ap owner_fault_of first ∙ ap (λ (owner : Option Owner). if is_none owner then kind.InvalidValue ∷ [] else []) named

pub returns-in_ok-owner_refusal-in-None-clause-refused : goal.returns-in_ok-owner_refusal-in-None-clause-refused
returns-in_ok-owner_refusal-in-None-clause-refused c =
    let first = sym (c.get_str.ensures ∙ first_value-rows (found_of c.args.mount.now) (codes "owner")) ∙ ap (option_map (λ w. w.now)) c.in-Some.is in
    let named : owner_of c.in-Some.word.now ≡ None = sym (c.read_owner.ensures.owner ∙ ap owner_of c.as_bytes.ensures.value) ∙ c.in-None.is in
    let faults = ap owner_fault_of first ∙ ap (λ (owner : Option Owner). if is_none owner then kind.InvalidValue ∷ [] else []) named in
    subst (λ (kinds : Kinds). HasKind kinds c.in_ok-owner_refusal-in-None.field-0) (sym faults) (inr (inl c.in_ok-owner_refusal-in-None.ensures.kind))
