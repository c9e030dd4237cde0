-- What a channel reports grows by a turn as the receipts do.
use Rattle.std.proofs.Common.{◌≡◌, List, [], ◌∷◌, ◌++◌, refl, sym, ap, ◌∙◌}
use Rattle.std.proofs.lemmas.List.{append_assoc, append-nil}
use Rattle.std.proofs.lemmas.List.Concat.{flat_map-append}
use Rattle.fuse_wire.specs.declared.request.Ask.{Ask}
use Rattle.fuse_wire.specs.declared.reply.Reply.{Reply}
use Rattle.workers.specs.Channel.{Reported, grown, with_ask, with_replies}
use Rattle.journal.specs.Receipts.{asks_of, replies_of, replies_to}
use Rattle.journal.specs.declared.receipt.Receipt.{Receipt}

-- the asks of one more receipt
asks_more : (receipts : List Receipt) (one : Receipt) → asks_of (receipts ++ one ∷ []) ≡ asks_of receipts ++ one.ask ∷ []
asks_more [] one = refl
asks_more (first ∷ rest) one = ap (λ asks. first.ask ∷ asks) (asks_more rest one)

-- the replies of one more receipt
replies_more :
    (receipts : List Receipt) (one : Receipt) →
    replies_of (receipts ++ one ∷ []) ≡ replies_of receipts ++ replies_to one.ask.unique one.answer
replies_more receipts one =
    flat_map-append (λ (r : Receipt). replies_to r.ask.unique r.answer) receipts (one ∷ [])
    ∙ ap (λ last. replies_of receipts ++ last) (append-nil (replies_to one.ask.unique one.answer))

-- what is reported, the replies first
abbrev reported_by : List Reply → List Ask → Reported
reported_by replies asks = record { taken = asks; posted = replies }

-- the ask of one more receipt was taken, and its answer posted
pub grown_more :
    (start : Reported) (receipts : List Receipt) (one : Receipt) →
    with_replies (with_ask (grown start receipts) one.ask) (replies_to one.ask.unique one.answer)
    ≡ grown start (receipts ++ one ∷ [])
grown_more start receipts one =
    let asks : (start.taken ++ asks_of receipts) ++ one.ask ∷ [] ≡ start.taken ++ asks_of (receipts ++ one ∷ []) =
    append_assoc start.taken (asks_of receipts) (one.ask ∷ [])
    ∙ ap (λ xs. start.taken ++ xs) (sym (asks_more receipts one)) in
    let replies : (start.posted ++ replies_of receipts) ++ replies_to one.ask.unique one.answer
    ≡ start.posted ++ replies_of (receipts ++ one ∷ []) =
    append_assoc start.posted (replies_of receipts) (replies_to one.ask.unique one.answer)
    ∙ ap (λ xs. start.posted ++ xs) (sym (replies_more receipts one)) in
    ap (reported_by (with_replies (with_ask (grown start receipts) one.ask) (replies_to one.ask.unique one.answer)).posted) asks
    ∙ ap (λ (ys : List Reply). reported_by ys (start.taken ++ asks_of (receipts ++ one ∷ []))) replies
