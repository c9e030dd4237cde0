-- A history grows by a legal step, and the backing's condition stays.
use Rattle.std.proofs.Common.{◌≡◌, ℕ, ◌+◌, List, [], ◌∷◌, ◌++◌, length, Option, refl, sym, ap, ◌∙◌, subst}
use Rattle.std.proofs.lemmas.List.{length-append}
use Rattle.eden_base.specs.declared.number.FileId.{FileId}
use Rattle.manifest.specs.Manifest.{Manifest}
use Rattle.manifest.specs.Tree.{Tree, file_of, tree_of}
use Rattle.manifest.specs.declared.content.Content.{Content}
use Rattle.fuse_wire.specs.declared.request.Request.{Request}
use Rattle.fuse_wire.specs.declared.reply.Answer.{Answer}
use Rattle.fuse_ops.specs.Loading.{Backs}
use Rattle.fuse_ops.specs.Served.{ServedState, Replay}
use Rattle.journal.specs.Journal.{applied}
use Rattle.workers.specs.Replays.{Replays}
use Rattle.journal.specs.declared.journal.Record.{Record}

-- one more record, by a legal step from where the others lead
pub replays_more :
    (records : List Record) (opening last next : ServedState) (request : Request) (answer : Option Answer) →
    Replays opening records last → Replay last request answer next →
    Replays opening (records ++ applied request answer ∷ []) next
replays_more [] opening last next request answer is step =
    (next, subst (λ (s : ServedState). Replay s request answer next) is step, refl)
replays_more (first ∷ rest) opening last next request answer is step =
    (is.0, is.1, replays_more rest is.0 last next request answer is.2 step)

-- what holds each regular file of a manifest goes on to
pub backs_kept :
    (content later : FileId → Option Content) (old new : Tree) → Backs content old →
    ((file : FileId) → later file ≡ content file) → new.manifest ≡ old.manifest → Backs later new
backs_kept content later old new backs same over file f is kind =
    same file ∙ backs file f (ap (λ (m : Manifest). file_of (tree_of m) file) (sym over) ∙ is) kind

-- the total counts one more
pub total_more :
    (records later : List Record) (one : Record) (total next : ℕ) → total ≡ length records → next ≡ total + 1 →
    later ≡ records ++ one ∷ [] → next ≡ length later
total_more records later one total next was more is =
    more ∙ ap (λ n. n + 1) was ∙ sym (length-append records (one ∷ [])) ∙ ap (λ (l : List Record). length l) (sym is)

-- a history with one more record, where it is told as a list
pub replays_by :
    (records later : List Record) (opening last next : ServedState) (request : Request) (answer : Option Answer) →
    Replays opening records last → Replay last request answer next → later ≡ records ++ applied request answer ∷ [] →
    Replays opening later next
replays_by records later opening last next request answer is step reported =
    subst (λ (l : List Record). Replays opening l next) (sym reported)
    (replays_more records opening last next request answer is step)
