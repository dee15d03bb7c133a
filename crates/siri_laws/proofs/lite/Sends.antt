-- What is sent over connections that are dialled is the same, whichever connections are to come; and none of these is taken.
use Rattle.std.proofs.Common.{◌≡◌, inl, inr, ℕ, zero, suc, Bool, true, false, List, [], ◌∷◌, Option, None, Some, refl, sym, ap, ◌∙◌, subst}
use Rattle.siri_outside.specs.OutsideCalls.{WhereTold}
use Rattle.siri_outside.specs.Wires.{Connection, Present, WireState}
use Rattle.siri_http.specs.Connections.{OnPresent}
use Rattle.siri_http.specs.Exchanges.{dialled, dialled_of, is_due}
use Rattle.siri_http.specs.Posts.{ByDial, Posts, PostsTo, Talked}
use Rattle.siri_http.specs.Responses.{WroteFront}
use Rattle.siri_http.specs.Texts.{request_text}
use Rattle.siri_http.specs.declared.posting.Sent.{Sent}
use Rattle.siri_model.specs.History.{History}
use Rattle.siri_subscriptions.specs.declared.outs.Out.{Out}
use Rattle.siri_wire.specs.Canonical.{canonical}
use Rattle.siri_ends.specs.At.{At}
use Rattle.siri_ends.specs.InTurn.{FirstInTurn, InTurn}
use Rattle.siri_ends.specs.Manners.{Manner}
use Rattle.siri_ends.specs.Serving.{PostsOut, target_of}
use Rattle.siri_laws.specs.lite.Served.{swapped, with_coming}
use Rattle.siri_laws.proofs.lite.Told.{told_on}

-- ---- with other connections to come

module _ (coming : List Connection) where
  told_same : (Does : WireState → WireState → Type 0)
      → ((old new : WireState) → Does old new → Does (with_coming coming old) (with_coming coming new))
      → (old new : Option WireState) → WhereTold old new Does → WhereTold (swapped coming old) (swapped coming new) Does
  told_same Does step None new told = tt
  told_same Does step (Some old) None told = absurd told
  told_same Does step (Some old) (Some new) told = step old new told

  pub present_same : (Does : Present → Present → Type 0) (old new : WireState) → OnPresent Does old new
      → OnPresent Does (with_coming coming old) (with_coming coming new)
  present_same Does old new on = record { present = on.present; rest = ap (with_coming coming) on.rest }

  talked_same : (text : List ℕ) (outcome : Sent) (there : Option Present) (old new : WireState) → Talked text outcome there old new
      → Talked text outcome there (with_coming coming old) (with_coming coming new)
  talked_same text outcome None old new talked = tt
  talked_same text outcome (Some present) old new talked = (talked.0, ap (with_coming coming) talked.1)

  dialled_same : (host : List ℕ) (due : Bool) (to_dial : List Connection) (wire : WireState)
      → dialled_of due to_dial host (with_coming coming wire) ≡ swapped coming (dialled_of due to_dial host wire)
  dialled_same host true to_dial wire = refl
  dialled_same host false [] wire = refl
  dialled_same host false (first ∷ later) wire = refl

  dial_same : (host text : List ℕ) (outcome : Sent) (there : Option WireState) (old new : WireState)
      → ByDial host text outcome there old new
      → ByDial host text outcome (swapped coming there) (with_coming coming old) (with_coming coming new)
  dial_same host text outcome None old new by = (by.0, ap (with_coming coming) by.1)
  dial_same host text outcome (Some there) old new by = talked_same text outcome there.present there new by

  post_to_same : (host text : List ℕ) (outcome : Option Sent) (old new : WireState) → PostsTo host text outcome old new
      → PostsTo host text outcome (with_coming coming old) (with_coming coming new)
  post_to_same host text None old new (inl same) = inl (ap (with_coming coming) same)
  post_to_same host text None old new (inr stops) = inr (record {
    there = with_coming coming stops.there;
    dialled_is = dialled_same host (is_due old.dial_fails) old.to_dial old ∙ ap (swapped coming) stops.dialled_is;
    wrote = present_same (WroteFront text) stops.there new stops.wrote;
  })
  post_to_same host text (Some outcome) old new by =
      subst (λ there. ByDial host text outcome there (with_coming coming old) (with_coming coming new))
      (sym (dialled_same host (is_due old.dial_fails) old.to_dial old))
      (dial_same host text outcome (dialled host old) old new by)

  posts_same : (address : Option (List ℕ × List ℕ)) (body : List ℕ) (outcome : Option Sent) (old new : WireState)
      → Posts address body outcome old new → Posts address body outcome (with_coming coming old) (with_coming coming new)
  posts_same None body None old new posts = ap (with_coming coming) posts
  posts_same None body (Some outcome) old new posts = (posts.0, ap (with_coming coming) posts.1)
  posts_same (Some address) body outcome old new posts =
      post_to_same address.0 (request_text address.0 address.1 body) outcome old new posts

  out_same : (out : Out) (outcome : Option Sent) (before after : Option WireState) → PostsOut out outcome before after
      → PostsOut out outcome (swapped coming before) (swapped coming after)
  out_same out outcome before after posts =
      told_same (Posts (target_of out.address) (canonical out.message) outcome)
      (posts_same (target_of out.address) (canonical out.message) outcome) before after posts

  -- an end, with other connections to come
  abbrev pub moved_at : At History → At History
  moved_at at = record at { wire = swapped coming at.wire }

  module _ (manner : Manner History Out) where
    pub sends_same : (limit : ℕ) (list : List Out) (at end : At History) → InTurn PostsOut manner limit list at end
        → InTurn PostsOut manner limit list (moved_at at) (moved_at end)
    unfolding InTurn
    sends_same zero list at end is = ap moved_at is
    sends_same (suc limit) [] at end is = ap moved_at is
    sends_same (suc limit) (first ∷ rest) at end some = (
      some.0,
      moved_at some.1,
      record {
        told = out_same first (Some some.0) at.wire some.1.wire some.2.told;
        cause = some.2.cause;
        state = some.2.state;
        tally = some.2.tally;
      },
      sends_same limit _ some.1 end some.3,
    )

    pub first_same : (limit : ℕ) (list : List Out) (state : History) (before now : Option WireState)
        → FirstInTurn PostsOut manner limit list state before now
        → FirstInTurn PostsOut manner limit list state (swapped coming before) (swapped coming now)
    unfolding FirstInTurn
    first_same zero list state before now is = ap (swapped coming) is
    first_same (suc limit) [] state before now is = ap (swapped coming) is
    first_same (suc limit) (first ∷ rest) state before now (inl posts) = inl (out_same first None before now posts)
    first_same (suc limit) (first ∷ rest) state before now (inr some) =
        inr (some.0, swapped coming some.1, out_same first (Some some.0) before some.1 some.2, first_same limit _ _ some.1 now some.3)

-- ---- none of the connections to come is taken

dial_keeps : (host text : List ℕ) (outcome : Sent) (due : Bool) (to_dial : List Connection) (old new : WireState)
    → ByDial host text outcome (dialled_of due to_dial host old) old new → new.to_accept ≡ old.to_accept
dial_keeps host text outcome true to_dial old new by = ap (λ (wire : WireState). wire.to_accept) by.1
dial_keeps host text outcome false [] old new by = ap (λ (wire : WireState). wire.to_accept) by.1
dial_keeps host text outcome false (first ∷ later) old new by = ap (λ (wire : WireState). wire.to_accept) by.1

posts_keep : (address : Option (List ℕ × List ℕ)) (body : List ℕ) (outcome : Sent) (old new : WireState)
    → Posts address body (Some outcome) old new → new.to_accept ≡ old.to_accept
posts_keep None body outcome old new posts = ap (λ (wire : WireState). wire.to_accept) posts.1
posts_keep (Some address) body outcome old new posts =
    dial_keeps address.0 (request_text address.0 address.1 body) outcome (is_due old.dial_fails) old.to_dial old new posts

-- a wire goes on to tell, and the same connections are to come
abbrev pub KeepsComing : WireState → Option WireState → Type 0
KeepsComing old now = (new : WireState) × (now ≡ Some new) × (new.to_accept ≡ old.to_accept)

pub sends_keep : (manner : Manner History Out) (limit : ℕ) (list : List Out) (at end : At History) (old : WireState)
    → at.wire ≡ Some old → InTurn PostsOut manner limit list at end → KeepsComing old end.wire
unfolding InTurn
sends_keep manner zero list at end old told is = (old, ap (λ (a : At History). a.wire) is ∙ told, refl)
sends_keep manner (suc limit) [] at end old told is = (old, ap (λ (a : At History). a.wire) is ∙ told, refl)
sends_keep manner (suc limit) (first ∷ rest) at end old told some =
    let one = told_on (Posts (target_of first.address) (canonical first.message) (Some some.0)) at.wire some.1.wire old told some.2.told in
    let more = sends_keep manner limit _ some.1 end one.0 one.1 some.3 in
    (more.0, more.1, more.2 ∙ posts_keep (target_of first.address) (canonical first.message) some.0 old one.0 one.2)
