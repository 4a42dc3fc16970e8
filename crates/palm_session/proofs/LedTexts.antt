-- The objects along the lines of a text.
use Rattle.std.proofs.Common.{◌≡◌, ℕ, ◌+◌, List, [], ◌∷◌, ◌++◌, map, take, drop, length, All, Option, Result, Ok, Err, IfOk, refl, sym, ap, ◌∙◌, subst, arith, append-nil}
use Rattle.std.specs.Prelude.{slice_range}
use Rattle.std.proofs.lemmas.List.Elements.{All-nil, All-cons, All-push}
use Rattle.palm_base.proofs.cited.StreamLemmas.{appended_nothing, appended_both}
use Rattle.palm_lang.specs.Reply.{ended}
use Rattle.palm_lang.specs.declared.stop.WriteStop.{WriteStop as Stop}
use Rattle.palm_read.specs.Lines.{HasNoFeed, IsNextFeed, without_return}
use Rattle.palm_session.specs.Answers.{Answers}
use Rattle.palm_session.specs.Feeding.{AnswersLine}
use Rattle.palm_session.specs.Led.{Guiding, Ordering, AnswersLead, LineLeads, RunLeads, TextLeads, LinesLead, LinesLeadOut, FeedsLead, LastLeads}
use Rattle.palm_session.specs.Objects.{HeldObjects}
use Rattle.palm_session.specs.Replies.{GoesOn}
use Rattle.palm_session.specs.State.{SessionState}
use Rattle.palm_session.specs.declared.going.Going.{Going}
use Rattle.palm_session.specs.declared.going.Going.TheVariants.{More, Quit}
use Rattle.palm_session.specs.declared.limits.TheConstants.{MOST_KEPT_BYTES}
use Rattle.palm_session.proofs.cited.FeedLemmas.{line_whole, map_more}
use Rattle.palm_session.proofs.cited.Keeping.{completes, kept_twice, line_long, no_feed_both, unbroken_first}
use Rattle.palm_session.proofs.cited.LedLemmas.{answers_lead_long, feeds_then, texts_led}

module _ {G O : Type 0} (guiding : Guiding G) (ordering : Ordering O) where
  -- ---- one line after another

  one_led : (s t : SessionState) (line reply : List ℕ) (before after : HeldObjects G O) → Answers s line reply t → LineLeads guiding ordering s line before reply t after
      → RunLeads guiding ordering s (line ∷ []) reply before t after
  one_led s t line reply before after one led = (reply, [], t, after, one, led, sym (append-nil reply), (refl, refl, refl))

  next_led : (m t : SessionState) (text reply : List ℕ) (from end : ℕ) (before after : HeldObjects G O) → IsNextFeed text from end → Answers m (without_return (slice_range text from end)) reply t
      → LineLeads guiding ordering m (without_return (slice_range text from end)) before reply t after
      → TextLeads guiding ordering m (drop from text ++ []) (slice_range text from end ∷ []) (drop (end + 1) text) reply before t after
  next_led m t text reply from end before after f one led = record {
    whole = append-nil (drop from text) ∙ f.line ∙ line_whole (slice_range text from end) (drop (end + 1) text);
    unbroken = All-push HasNoFeed [] (slice_range text from end) (All-nil HasNoFeed) f.unbroken;
    run = one_led m t (without_return (slice_range text from end)) reply before after one led;
  }

  -- one more line of the text
  text_more : (s m t : SessionState) (text : List ℕ) (lines : List (List ℕ)) (replies reply : List ℕ) (from end : ℕ) (before between after : HeldObjects G O)
      → TextLeads guiding ordering s text lines (drop from text) replies before m between → IsNextFeed text from end
      → Answers m (without_return (slice_range text from end)) reply t → LineLeads guiding ordering m (without_return (slice_range text from end)) between reply t after
      → TextLeads guiding ordering s text (lines ++ slice_range text from end ∷ []) (drop (end + 1) text) (replies ++ reply) before t after
  text_more s m t text lines replies reply from end before between after so f one led =
      subst (λ (z : List ℕ). TextLeads guiding ordering s z (lines ++ slice_range text from end ∷ []) (drop (end + 1) text) (replies ++ reply) before t after) (append-nil text)
      (texts_led guiding ordering s m t text [] (drop (end + 1) text) lines (slice_range text from end ∷ []) (drop from text) replies reply before between after so
      (next_led m t text reply from end between after f one led))

  -- ---- the lines of a text

  pub lines_none : (s : SessionState) (text : List ℕ) (w : Option (List ℕ)) (objects : HeldObjects G O) → LinesLead guiding ordering s text w w text objects s objects
  lines_none s text w objects = record {
    lines = [];
    replies = [];
    led = record { whole = refl; unbroken = All-nil HasNoFeed; run = (refl, refl, refl) };
    goes_on = All-nil GoesOn;
    written = appended_nothing w;
  }

  pub lines_more : (s m t : SessionState) (text : List ℕ) (from end : ℕ) (before between after : HeldObjects G O) (was mid now : Option (List ℕ)) (asked : ℕ)
      → LinesLead guiding ordering s text was mid (drop from text) before m between → IsNextFeed text from end
      → AnswersLine m (without_return (slice_range text from end)) mid now More t asked → AnswersLead guiding ordering m (without_return (slice_range text from end)) mid now between t after
      → LinesLead guiding ordering s text was now (drop (end + 1) text) before t after
  lines_more s m t text from end before between after was mid now asked so f one led = record {
    lines = so.lines ++ slice_range text from end ∷ [];
    replies = so.replies ++ led.reply;
    led = text_more s m t text so.lines so.replies led.reply from end before between after so.led f led.answers led.leads;
    goes_on = subst (λ (ls : List (List ℕ)). All GoesOn ls) (sym (map_more so.lines (slice_range text from end)))
        (All-push GoesOn (map without_return so.lines) (without_return (slice_range text from end)) so.goes_on one.decides);
    written = appended_both was mid now so.replies led.reply so.written led.written;
  }

  pub lines_end : (s m t : SessionState) (text : List ℕ) (from end : ℕ) (before between after : HeldObjects G O) (was mid now : Option (List ℕ)) (asked : ℕ)
      → LinesLead guiding ordering s text was mid (drop from text) before m between → IsNextFeed text from end
      → AnswersLine m (without_return (slice_range text from end)) mid now Quit t asked → AnswersLead guiding ordering m (without_return (slice_range text from end)) mid now between t after
      → LinesLeadOut guiding ordering s text was now before t after
  lines_end s m t text from end before between after was mid now asked so f one led = record {
    lines = so.lines;
    last = slice_range text from end;
    rest = drop (end + 1) text;
    replies = so.replies ++ led.reply;
    led = text_more s m t text so.lines so.replies led.reply from end before between after so.led f led.answers led.leads;
    goes_on = so.goes_on;
    ends = one.decides;
    written = appended_both was mid now so.replies led.reply so.written led.written;
  }

  -- a piece that completes the line whose first bytes are kept
  module _ (s : SessionState) (kept piece : List ℕ) (end : ℕ) (none : HasNoFeed kept) (feed : IsNextFeed piece 0 end) where
    abbrev first : List ℕ
    first = kept ++ take end piece

    abbrev others : List ℕ
    others = drop (end + 1) piece

    first_long : (m : SessionState) (was now : Option (List ℕ)) (before between : HeldObjects G O) → AnswersLead guiding ordering s (without_return (take MOST_KEPT_BYTES first)) was now before m between
        → AnswersLead guiding ordering s (without_return first) was now before m between
    first_long m was now before between led = answers_lead_long guiding ordering s m (take MOST_KEPT_BYTES first) first was now before between (kept_twice first) led

    pub first_leads_out : (m : SessionState) (was now : Option (List ℕ)) (asked : ℕ) (before between : HeldObjects G O)
        → AnswersLine s (without_return (take MOST_KEPT_BYTES first)) was now Quit m asked → AnswersLead guiding ordering s (without_return (take MOST_KEPT_BYTES first)) was now before m between
        → LinesLeadOut guiding ordering s (kept ++ piece) was now before m between
    first_leads_out m was now asked before between short led =
        let one = line_long s m first was now Quit asked short in
        let long = first_long m was now before between led in
        subst (λ (z : List ℕ). LinesLeadOut guiding ordering s z was now before m between) (sym (completes s kept piece end none feed)) (record {
          lines = [];
          last = first;
          rest = others;
          replies = long.reply;
          led = record {
            whole = ap (λ (z : List ℕ). z ++ others) (sym (append-nil (ended first)));
            unbroken = unbroken_first s kept piece end none feed;
            run = one_led s m (without_return first) long.reply before between long.answers long.leads;
          };
          goes_on = All-nil GoesOn;
          ends = one.decides;
          written = long.written;
        })

    first_leads : (m : SessionState) (was now : Option (List ℕ)) (asked : ℕ) (before between : HeldObjects G O)
        → AnswersLine s (without_return (take MOST_KEPT_BYTES first)) was now More m asked → AnswersLead guiding ordering s (without_return (take MOST_KEPT_BYTES first)) was now before m between
        → LinesLead guiding ordering s (ended first) was now [] before m between
    first_leads m was now asked before between short led =
        let one = line_long s m first was now More asked short in
        let long = first_long m was now before between led in
        record {
          lines = first ∷ [];
          replies = long.reply;
          led = record {
            whole = sym (append-nil (ended first)) ∙ sym (append-nil (ended first ++ []));
            unbroken = unbroken_first s kept piece end none feed;
            run = one_led s m (without_return first) long.reply before between long.answers long.leads;
          };
          goes_on = All-cons GoesOn (without_return first) [] one.decides (All-nil GoesOn);
          written = long.written;
        }

    pub first_leads_more : (m t : SessionState) (was mid now : Option (List ℕ)) (asked : ℕ) (before between after : HeldObjects G O) (r : Result Going Stop)
        → AnswersLine s (without_return (take MOST_KEPT_BYTES first)) was mid More m asked → AnswersLead guiding ordering s (without_return (take MOST_KEPT_BYTES first)) was mid before m between
        → IfOk r (FeedsLead guiding ordering m others mid now between t after) → IfOk r (FeedsLead guiding ordering s (kept ++ piece) was now before t after)
    first_leads_more m t was mid now asked before between after (Ok going) short led f =
        subst (λ (z : List ℕ). FeedsLead guiding ordering s z was now before t after going) (sym (completes s kept piece end none feed))
        (feeds_then guiding ordering s m t (ended first) others [] was mid now before between after (first_leads m was mid asked before between short led) going f)
    first_leads_more m t was mid now asked before between after (Err stop) short led f = tt

  -- a piece that completes no line
  pub piece_leads : (s : SessionState) (kept piece : List ℕ) (w : Option (List ℕ)) (objects : HeldObjects G O) → HasNoFeed kept → HasNoFeed piece
      → FeedsLead guiding ordering s (kept ++ piece) w w objects s objects More
  piece_leads s kept piece w objects none unbroken = (kept ++ piece, no_feed_both kept piece none unbroken, lines_none s (kept ++ piece) w objects)

  -- ---- a last line

  pub last_none : (s : SessionState) (line : List ℕ) (w : Option (List ℕ)) (objects : HeldObjects G O) → length line ≡ 0 → LastLeads guiding ordering s line w w objects s objects
  last_none s [] w objects e = record { replies = []; run = (refl, refl, refl); written = appended_nothing w }
  last_none s (b ∷ bs) w objects e = absurd (omega (arith, e))

  pub last_led : (s t : SessionState) (line : List ℕ) (was now : Option (List ℕ)) (before after : HeldObjects G O)
      → (length line ≡ 0 → ⊥) → AnswersLead guiding ordering s (without_return line) was now before t after → LastLeads guiding ordering s line was now before t after
  last_led s t [] was now before after some led = absurd (some refl)
  last_led s t (b ∷ bs) was now before after some led =
      record { replies = led.reply; run = one_led s t (without_return (b ∷ bs)) led.reply before after led.answers led.leads; written = led.written }
