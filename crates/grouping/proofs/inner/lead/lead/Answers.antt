-- The lookup finds the last one before that is alike, or none; `Step` says what the words then hold.
use mathlib.Core.Path.{◌≡◌}
use native.Mathlib.Omega.{arith}
use lib.ListN.{length-set}
use Rattle.std.specs.Prelude.{Some}
use Rattle.grouping.specs.Step.{seeks, found_at, found_none, chained_length, leads_first, earlier, leads_later}
use Rattle.grouping.proofs.inner.lead.lead.Goals as goal

pub find_alike-found-requires : goal.find_alike-found-requires
find_alike-found-requires c = seeks c.requires c.traits_of.ensures c.bucket_of-bucket.ensures

pub returns-in_default : goal.returns-in_default
returns-in_default c =
    let find-alike = c.find_alike-found in
    let link-key = c.link_key in
    let pre = c.requires in
    let bucket-of = c.bucket_of-bucket in
    let traits-of = c.traits_of in
    let s = seeks pre traits-of.ensures bucket-of.ensures in
    leads_first s link-key.ensures (found_none c.in_default.is find-alike.ensures)

pub follow-requires : goal.follow-requires
follow-requires c =
    let find-alike = c.find_alike-found in
    let link-key = c.link_key in
    let pre = c.requires in
    let bucket-of = c.bucket_of-bucket in
    let traits-of = c.traits_of in
    let s = seeks pre traits-of.ensures bucket-of.ensures in
    let m = c.in-Some.before in
    let e : find-alike.result ≡ Some m = c.in-Some.is in
    (simp length-set (chained_length s link-key.ensures), s.few, omega (arith, s.few, earlier s link-key.ensures m (found_at m e find-alike.ensures)))

pub returns : goal.returns
returns c =
    let find-alike = c.find_alike-found in
    let follow = c.follow in
    let link-key = c.link_key in
    let pre = c.requires in
    let bucket-of = c.bucket_of-bucket in
    let traits-of = c.traits_of in
    let s = seeks pre traits-of.ensures bucket-of.ensures in
    let m = c.in-Some.before in
    let e : find-alike.result ≡ Some m = c.in-Some.is in
    leads_later s link-key.ensures m (found_at m e find-alike.ensures) follow.ensures
