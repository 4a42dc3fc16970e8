-- The objects along one text after another, and along lines of which the first bytes alone were kept.
use Rattle.std.proofs.Common.{◌≡◌, ℕ, inl, inr, List, [], ◌∷◌, ◌++◌, map, flat_map, take, All, Option, refl, sym, ap, ◌∙◌, subst, append_assoc}
use Rattle.std.proofs.lemmas.List.Elements.{All-nil, All-cons, All-head, All-tail, All-append}
use Rattle.palm_base.specs.Streams.{Appended}
use Rattle.palm_base.proofs.cited.StreamLemmas.{appended_both}
use Rattle.palm_lang.specs.Reply.{ended}
use Rattle.palm_read.specs.Lines.{HasNoFeed, without_return, last_line}
use Rattle.palm_session.specs.Led.{Guiding, Ordering, HasRequest, AnswersLead, LineLeads, RunLeads, TextLeads, LinesLead, LinesLeadOut, FeedsLead, LastLeads}
use Rattle.palm_session.specs.Objects.{HeldObjects}
use Rattle.palm_session.specs.Replies.{GoesOn, Ends}
use Rattle.palm_session.specs.State.{SessionState}
use Rattle.palm_session.specs.declared.going.Going.{Going}
use Rattle.palm_session.specs.declared.going.Going.TheVariants.{More, Quit}
use Rattle.palm_session.specs.declared.limits.TheConstants.{MOST_KEPT_BYTES}
use Rattle.palm_session.specs.declared.request.Request.{Request}
use Rattle.palm_session.proofs.cited.FeedLemmas.{goes_on_append, map_append, whole_append}
use Rattle.palm_session.proofs.cited.Keeping.{ends_long, goes_long, kept_twice, line_apart, no_feed_back, no_feed_both, no_feed_front, split_line}
use Rattle.palm_session.proofs.cited.LawsOfAnswers.{kept_more, same_first_bytes, same_first_bytes_read}

module _ {G O : Type 0} (guiding : Guiding G) (ordering : Ordering O) where
  -- ---- one run after another

  pub run_led : (s m t : SessionState) (xs ys : List (List ℕ)) (q r : List ℕ) (before between after : HeldObjects G O)
      → RunLeads guiding ordering s xs q before m between → RunLeads guiding ordering m ys r between t after → RunLeads guiding ordering s (xs ++ ys) (q ++ r) before t after
  run_led s m t [] ys q r before between after run more =
      let here : RunLeads guiding ordering m ys (q ++ r) between t after = subst (λ (z : List ℕ). RunLeads guiding ordering m ys (z ++ r) between t after) (sym run.0) more in
      subst (λ (o : HeldObjects G O). RunLeads guiding ordering s ys (q ++ r) o t after) run.2
      (subst (λ (x : SessionState). RunLeads guiding ordering x ys (q ++ r) between t after) run.1 here)
  run_led s m t (l ∷ ls) ys q r before between after run more = (
    run.0,
    run.1 ++ r,
    run.2,
    run.3,
    run.4,
    run.5,
    ap (λ (z : List ℕ). z ++ r) run.6 ∙ append_assoc run.0 run.1 r,
    run_led run.2 m t ls ys run.1 r run.3 between after run.7 more,
  )

  -- the answered front of a text, and the front of what is left
  pub texts_led : (s m t : SessionState) (text more rest : List ℕ) (xs ys : List (List ℕ)) (mid q r : List ℕ) (before between after : HeldObjects G O)
      → TextLeads guiding ordering s text xs mid q before m between → TextLeads guiding ordering m (mid ++ more) ys rest r between t after
      → TextLeads guiding ordering s (text ++ more) (xs ++ ys) rest (q ++ r) before t after
  texts_led s m t text more rest xs ys mid q r before between after one two = record {
    whole = whole_append text more rest xs ys mid one.whole two.whole;
    unbroken = All-append HasNoFeed xs ys one.unbroken two.unbroken;
    run = subst (λ (ls : List (List ℕ)). RunLeads guiding ordering s ls (q ++ r) before t after) (sym (map_append xs ys))
        (run_led s m t (map without_return xs) (map without_return ys) q r before between after one.run two.run);
  }

  -- one feeding after another
  module _ (s m t : SessionState) (text more mid : List ℕ) (was then now : Option (List ℕ)) (before between after : HeldObjects G O) (one : LinesLead guiding ordering s text was then mid before m between) where
    lines_then : (rest : List ℕ) → LinesLead guiding ordering m (mid ++ more) then now rest between t after → LinesLead guiding ordering s (text ++ more) was now rest before t after
    lines_then rest two = record {
      lines = one.lines ++ two.lines;
      replies = one.replies ++ two.replies;
      led = texts_led s m t text more rest one.lines two.lines mid one.replies two.replies before between after one.led two.led;
      goes_on = goes_on_append one.lines two.lines one.goes_on two.goes_on;
      written = appended_both was then now one.replies two.replies one.written two.written;
    }

    lines_then_out : LinesLeadOut guiding ordering m (mid ++ more) then now between t after → LinesLeadOut guiding ordering s (text ++ more) was now before t after
    lines_then_out two = record {
      lines = one.lines ++ two.lines;
      last = two.last;
      rest = two.rest;
      replies = one.replies ++ two.replies;
      led = subst (λ (ls : List (List ℕ)). TextLeads guiding ordering s (text ++ more) ls two.rest (one.replies ++ two.replies) before t after) (sym (append_assoc one.lines two.lines (two.last ∷ [])))
          (texts_led s m t text more two.rest one.lines (two.lines ++ two.last ∷ []) mid one.replies two.replies before between after one.led two.led);
      goes_on = goes_on_append one.lines two.lines one.goes_on two.goes_on;
      ends = two.ends;
      written = appended_both was then now one.replies two.replies one.written two.written;
    }

    pub feeds_then : (going : Going) → FeedsLead guiding ordering m (mid ++ more) then now between t after going → FeedsLead guiding ordering s (text ++ more) was now before t after going
    feeds_then More f = (f.0, f.1, lines_then f.0 f.2)
    feeds_then Quit f = lines_then_out f

  -- ---- lines of which the first bytes alone are kept

  -- a line leads as each line with its first bytes does
  line_leads_long : (s t : SessionState) (a b reply : List ℕ) (before after : HeldObjects G O) → take MOST_KEPT_BYTES a ≡ take MOST_KEPT_BYTES b
      → LineLeads guiding ordering s (without_return a) before reply t after → LineLeads guiding ordering s (without_return b) before reply t after
  line_leads_long s t a b reply before after e led = elim led [
    | inl none ↦ inl (
      (λ (request : Request) (has : HasRequest s (without_return b) request).
          none.0 request (record { line = has.line; read = same_first_bytes_read s.mode b a has.line (sym e) has.read; admitted = has.admitted })),
      none.1,
    )
    | inr some ↦ inr (
      some.0,
      record { line = some.1.line; read = same_first_bytes_read s.mode a b some.1.line e some.1.read; admitted = some.1.admitted },
      some.2,
    )
  ]

  pub answers_lead_long : (s t : SessionState) (a b : List ℕ) (was now : Option (List ℕ)) (before after : HeldObjects G O) → take MOST_KEPT_BYTES a ≡ take MOST_KEPT_BYTES b
      → AnswersLead guiding ordering s (without_return a) was now before t after → AnswersLead guiding ordering s (without_return b) was now before t after
  answers_lead_long s t a b was now before after e led = record {
    reply = led.reply;
    answers = same_first_bytes s a b led.reply t e led.answers;
    leads = line_leads_long s t a b led.reply before after e led.leads;
    written = led.written;
  }

  -- the first line of a text of which the front was kept
  long_led : (s t : SessionState) (rest more l : List ℕ) (ls : List (List ℕ)) (back replies : List ℕ) (before after : HeldObjects G O) → HasNoFeed rest
      → TextLeads guiding ordering s (take MOST_KEPT_BYTES rest ++ more) (l ∷ ls) back replies before t after
      → (line : List ℕ) × (take MOST_KEPT_BYTES l ≡ take MOST_KEPT_BYTES line) × TextLeads guiding ordering s (rest ++ more) (line ∷ ls) back replies before t after
  long_led s t rest more l ls back replies before after none a =
      let kept : List ℕ = take MOST_KEPT_BYTES rest in
      let tail : List ℕ = flat_map ended ls ++ back in
      let p = split_line kept more l tail (no_feed_front MOST_KEPT_BYTES rest none) (a.whole ∙ line_apart l ls back) in
      let same : take MOST_KEPT_BYTES l ≡ take MOST_KEPT_BYTES (rest ++ p.0) =
      ap (λ (z : List ℕ). take MOST_KEPT_BYTES z) p.1 ∙ kept_more MOST_KEPT_BYTES rest p.0 in
      let unbroken : HasNoFeed p.0 = no_feed_back kept p.0 (subst HasNoFeed p.1 (All-head HasNoFeed l ls a.unbroken)) in (
        rest ++ p.0,
        same,
        record {
          whole = ap (λ (z : List ℕ). rest ++ z) p.2 ∙ sym (append_assoc rest p.0 (10 ∷ tail)) ∙ sym (line_apart (rest ++ p.0) ls back);
          unbroken = All-cons HasNoFeed (rest ++ p.0) ls (no_feed_both rest p.0 none unbroken) (All-tail HasNoFeed l ls a.unbroken);
          run = (
            a.run.0,
            a.run.1,
            a.run.2,
            a.run.3,
            same_first_bytes s l (rest ++ p.0) a.run.0 a.run.2 same a.run.4,
            line_leads_long s a.run.2 l (rest ++ p.0) a.run.0 before a.run.3 same a.run.5,
            a.run.6,
            a.run.7,
          );
        },
      )

  -- what was answered where the front of a line was kept was answered to the whole line
  module _ (s t : SessionState) (rest more : List ℕ) (was now : Option (List ℕ)) (before after : HeldObjects G O) (none : HasNoFeed rest) where
    on_long : (back : List ℕ) (lines : List (List ℕ)) (replies : List ℕ) → TextLeads guiding ordering s (take MOST_KEPT_BYTES rest ++ more) lines back replies before t after
        → HasNoFeed back → All GoesOn (map without_return lines) → Appended was now replies → FeedsLead guiding ordering s (rest ++ more) was now before t after More
    on_long back [] replies a unbroken on w =
        let behind : HasNoFeed more = no_feed_back (take MOST_KEPT_BYTES rest) more (subst HasNoFeed (sym a.whole) unbroken) in (
          rest ++ more,
          no_feed_both rest more none behind,
          record {
            lines = [];
            replies = replies;
            led = record { whole = refl; unbroken = All-nil HasNoFeed; run = a.run };
            goes_on = on;
            written = w;
          },
        )
    on_long back (l ∷ ls) replies a unbroken on w =
        let r = long_led s t rest more l ls back replies before after none a in (
          back,
          unbroken,
          record {
            lines = r.0 ∷ ls;
            replies = replies;
            led = r.2;
            goes_on = All-cons GoesOn (without_return r.0) (map without_return ls)
                (goes_long l r.0 r.1 (All-head GoesOn (without_return l) (map without_return ls) on))
                (All-tail GoesOn (without_return l) (map without_return ls) on);
            written = w;
          },
        )

    out_long : (back : List ℕ) (lines : List (List ℕ)) (last replies : List ℕ) → TextLeads guiding ordering s (take MOST_KEPT_BYTES rest ++ more) (lines ++ last ∷ []) back replies before t after
        → All GoesOn (map without_return lines) → Ends (without_return last) → Appended was now replies → LinesLeadOut guiding ordering s (rest ++ more) was now before t after
    out_long back [] last replies a on ends w =
        let r = long_led s t rest more last [] back replies before after none a in
        record { lines = []; last = r.0; rest = back; replies = replies; led = r.2; goes_on = on; ends = ends_long last r.0 r.1 ends; written = w }
    out_long back (l ∷ ls) last replies a on ends w =
        let r = long_led s t rest more l (ls ++ last ∷ []) back replies before after none a in
        record {
          lines = r.0 ∷ ls;
          last = last;
          rest = back;
          replies = replies;
          led = r.2;
          goes_on = All-cons GoesOn (without_return r.0) (map without_return ls)
              (goes_long l r.0 r.1 (All-head GoesOn (without_return l) (map without_return ls) on))
              (All-tail GoesOn (without_return l) (map without_return ls) on);
          ends = ends;
          written = w;
        }

    feeds_front : (going : Going) → FeedsLead guiding ordering s (take MOST_KEPT_BYTES rest ++ more) was now before t after going → FeedsLead guiding ordering s (rest ++ more) was now before t after going
    feeds_front More f = on_long f.0 f.2.lines f.2.replies f.2.led f.1 f.2.goes_on f.2.written
    feeds_front Quit f = out_long f.rest f.lines f.last f.replies f.led f.goes_on f.ends f.written

    pub feeds_lead_long : (kept : List ℕ) (going : Going) → kept ≡ take MOST_KEPT_BYTES rest → FeedsLead guiding ordering s (kept ++ more) was now before t after going
        → FeedsLead guiding ordering s (rest ++ more) was now before t after going
    feeds_lead_long kept going is f = feeds_front going (subst (λ (z : List ℕ). FeedsLead guiding ordering s (z ++ more) was now before t after going) is f)

  -- a last line of which the first bytes were kept
  last_led_long : (s t : SessionState) (line replies : List ℕ) (before after : HeldObjects G O)
      → RunLeads guiding ordering s (last_line (take MOST_KEPT_BYTES line)) replies before t after → RunLeads guiding ordering s (last_line line) replies before t after
  last_led_long s t [] replies before after run = run
  last_led_long s t (b ∷ bs) replies before after run =
      let short : List ℕ = take MOST_KEPT_BYTES (b ∷ bs) in (
        run.0,
        run.1,
        run.2,
        run.3,
        same_first_bytes s short (b ∷ bs) run.0 run.2 (kept_twice (b ∷ bs)) run.4,
        line_leads_long s run.2 short (b ∷ bs) run.0 before run.3 (kept_twice (b ∷ bs)) run.5,
        run.6,
        run.7,
      )

  pub last_leads_long : (s t : SessionState) (kept rest : List ℕ) (was now : Option (List ℕ)) (before after : HeldObjects G O) → kept ≡ take MOST_KEPT_BYTES rest
      → LastLeads guiding ordering s kept was now before t after → LastLeads guiding ordering s rest was now before t after
  last_leads_long s t kept rest was now before after is f =
      let g = subst (λ (z : List ℕ). LastLeads guiding ordering s z was now before t after) is f in
      record { replies = g.replies; run = last_led_long s t rest g.replies before after g.run; written = g.written }
