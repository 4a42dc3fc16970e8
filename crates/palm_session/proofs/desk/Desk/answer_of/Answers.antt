use Rattle.std.proofs.Common.{IfOk, refl, sym, subst}
use Rattle.std.proofs.lemmas.Result.{IfOk-weaker}
use Rattle.palm_model.specs.State.{present}
use Rattle.palm_session.specs.Answers.{IsAnswer, SaysWhy}
use Rattle.palm_session.specs.ReplyText.{reply_text}
use Rattle.palm_session.specs.Serving.{IsOpen}
use Rattle.palm_session.specs.declared.reply.Reply.TheVariants.{Domains as DomainsReply, Domain as DomainReply}
use Rattle.palm_session.specs.declared.request.Question.{Question}
use Rattle.palm_session.specs.declared.request.Question.TheVariants.{Domains, Domain, Why, Minimal, Cert}
use Rattle.palm_session.specs.declared.request.Request.TheVariants.{Ask}
use Rattle.palm_session.proofs.Answering.{open_domains, open_filled}
use Rattle.palm_session.proofs.desk.Desk.answer_of.Goals as goal

pub minimal-requires-clause-filled : goal.minimal-requires-clause-filled
minimal-requires-clause-filled g c =
    let s = c.args.self.now.state in
    let open_to = subst (λ (q : Question). IsOpen s (Ask q)) c.in-Minimal.is c.requires.open in
    open_filled s c.requires.state (Minimal c.in-Minimal.pair) open_to tt tt

pub returns-in-Domains-clause-answers : goal.returns-in-Domains-clause-answers
returns-in-Domains-clause-answers g c =
    let s = c.args.self.now.state in
    let open_to = subst (λ (q : Question). IsOpen s (Ask q)) c.in-Domains.is c.requires.open in
    subst (λ (q : Question). IsAnswer s q (reply_text s DomainsReply)) (sym c.in-Domains.is) (present s.engine, open_domains s c.requires.state Domains open_to tt tt, refl)

pub returns-in-Domain-clause-answers : goal.returns-in-Domain-clause-answers
returns-in-Domain-clause-answers g c =
    let s = c.args.self.now.state in
    let x = c.in-Domain.var in
    let open_to = subst (λ (q : Question). IsOpen s (Ask q)) c.in-Domain.is c.requires.open in
    subst (λ (q : Question). IsAnswer s q (reply_text s (DomainReply x))) (sym c.in-Domain.is) (present s.engine, open_domains s c.requires.state (Domain x) open_to tt tt, refl)

pub returns-in-Why-clause-answers : goal.returns-in-Why-clause-answers
returns-in-Why-clause-answers g c =
    let s = c.args.self.now.state in
    let pair = c.in-Why.pair in
    let open_to = subst (λ (q : Question). IsOpen s (Ask q)) c.in-Why.is c.requires.open in
    let are = open_domains s c.requires.state (Why pair) open_to tt tt in
    subst (λ (q : Question). IfOk c.why.result (λ reply. IsAnswer s q (reply_text s reply))) (sym c.in-Why.is)
    (IfOk-weaker c.why.result (λ reply. SaysWhy s (present s.engine) pair.var pair.value (reply_text s reply)) (λ reply. IsAnswer s (Why pair) (reply_text s reply))
    (λ reply said. (present s.engine, are, said)) c.why.ensures.tells)

pub returns-in-Cert-clause-answers : goal.returns-in-Cert-clause-answers
returns-in-Cert-clause-answers g c =
    let s = c.args.self.now.state in
    let pair = c.in-Cert.pair in
    let open_to = subst (λ (q : Question). IsOpen s (Ask q)) c.in-Cert.is c.requires.open in
    subst (λ (q : Question). IsAnswer s q (reply_text s c.cert.result)) (sym c.in-Cert.is) (present s.engine, open_domains s c.requires.state (Cert pair) open_to tt tt, c.cert.ensures.tells)
