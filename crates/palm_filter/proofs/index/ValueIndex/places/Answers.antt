use Rattle.std.proofs.Common.{subst}
use Rattle.palm_filter.specs.Index.{IsStarted}
use Rattle.palm_filter.proofs.Started.{started_ascends, started_ordered, started_stands, started_every, started_once, missing}
use Rattle.palm_filter.proofs.index.ValueIndex.places.Goals as goal

pub slice_bounds-result-count : goal.slice_bounds-result-count
slice_bounds-result-count c =
    let i = c.self.inside in
    let is = subst (λ values. IsStarted values i.places.items i.starts.least i.starts.list.items) c.self.view_is c.self.invariant in
    started_ordered c.args.self.now i.places.items c.deref.result.now i.starts.least i.starts.list.items is c.deref.ensures.value c.args.value.now c.in-Some.distance c.index.result.now c.index-in-Some.result.now c.in-Some.ensures.distance c.in-Some.ensures.within c.index.ensures c.index-in-Some.ensures

pub slice_bounds-result-start : goal.slice_bounds-result-start
slice_bounds-result-start c =
    let i = c.self.inside in
    let is = subst (λ values. IsStarted values i.places.items i.starts.least i.starts.list.items) c.self.view_is c.self.invariant in
    started_ordered c.args.self.now i.places.items c.deref.result.now i.starts.least i.starts.list.items is c.deref.ensures.value c.args.value.now c.in-Some.distance c.index.result.now c.index-in-Some.result.now c.in-Some.ensures.distance c.in-Some.ensures.within c.index.ensures c.index-in-Some.ensures

pub returns-in-Some-clause-stands : goal.returns-in-Some-clause-stands
returns-in-Some-clause-stands c =
    let i = c.self.inside in
    let is = subst (λ values. IsStarted values i.places.items i.starts.least i.starts.list.items) c.self.view_is c.self.invariant in
    started_stands c.args.self.now i.places.items c.deref.result.now i.starts.least i.starts.list.items is c.deref.ensures.value c.args.value.now c.in-Some.distance c.index.result.now c.index-in-Some.result.now c.in-Some.ensures.distance c.in-Some.ensures.within c.index.ensures c.index-in-Some.ensures

pub returns-in-Some-clause-every : goal.returns-in-Some-clause-every
returns-in-Some-clause-every c =
    let i = c.self.inside in
    let is = subst (λ values. IsStarted values i.places.items i.starts.least i.starts.list.items) c.self.view_is c.self.invariant in
    started_every c.args.self.now i.places.items c.deref.result.now i.starts.least i.starts.list.items is c.deref.ensures.value c.args.value.now c.in-Some.distance c.index.result.now c.index-in-Some.result.now c.in-Some.ensures.distance c.in-Some.ensures.within c.index.ensures c.index-in-Some.ensures

pub returns-in-Some-clause-once : goal.returns-in-Some-clause-once
returns-in-Some-clause-once c =
    let i = c.self.inside in
    let is = subst (λ values. IsStarted values i.places.items i.starts.least i.starts.list.items) c.self.view_is c.self.invariant in
    started_once c.args.self.now i.places.items c.deref.result.now i.starts.least i.starts.list.items is c.deref.ensures.value c.args.value.now c.in-Some.distance c.index.result.now c.index-in-Some.result.now c.in-Some.ensures.distance c.in-Some.ensures.within c.index.ensures c.index-in-Some.ensures

pub returns-in-Some-clause-ascending : goal.returns-in-Some-clause-ascending
returns-in-Some-clause-ascending c =
    let i = c.self.inside in
    let is = subst (λ values. IsStarted values i.places.items i.starts.least i.starts.list.items) c.self.view_is c.self.invariant in
    started_ascends c.args.self.now i.places.items c.deref.result.now i.starts.least i.starts.list.items is c.deref.ensures.value c.args.value.now c.in-Some.distance c.index.result.now c.index-in-Some.result.now c.in-Some.ensures.distance c.in-Some.ensures.within c.index.ensures c.index-in-Some.ensures

pub returns-in-None-2-clause-every : goal.returns-in-None-2-clause-every
returns-in-None-2-clause-every c k h =
    let i = c.self.inside in
    let is = subst (λ values. IsStarted values i.places.items i.starts.least i.starts.list.items) c.self.view_is c.self.invariant in
    absurd (missing c.args.self.now i.places.items i.starts.least i.starts.list.items is.starting c.args.value.now c.if-is_empty.ensures c.in-None.ensures.beyond k h)
