-- The chain says whether the key is there: the config is joined, or goes last.
use mathlib.Core.Path.{◌≡◌, sym, ap, ◌∙◌}
use Rattle.setcheck.specs.Keys.{place_of}
use Rattle.std.specs.Prelude.{Some}
use Rattle.configs.proofs.Adds.{add_holds, add_joinable, add_at, add_last}
use Rattle.configs.proofs.adding.add_known.Goals as goal

pub insert-requires : goal.insert-requires
insert-requires c =
    let pre = c.requires in
    add_holds pre

pub returns-in_default : goal.returns-in_default
returns-in_default c =
    let args = c.args in
    let pre = c.requires in
    let config-count = c.config_count-count in
    let find-key = c.find_key in
    let insert = c.insert in
    let clear = c.clear in
    insert.ensures args.store.now clear.new.words
    ∙ add_last pre config-count.result config-count.ensures (sym (ap place_of c.in_default.is) ∙ find-key.ensures)
    clear.new.words clear.ensures

pub join-requires : goal.join-requires
join-requires c =
    let find-key = c.find_key in
    let pre = c.requires in
    let config-count = c.config_count-count in
    let e : find-key.result ≡ Some c.in-Some.place = cc in
    add_joinable pre config-count.result config-count.ensures c.in-Some.place (sym (ap place_of e) ∙ find-key.ensures)

pub returns : goal.returns
returns c =
    let join = c.join in
    let pre = c.requires in
    let config-count = c.config_count-count in
    let e : c.find_key.result ≡ Some c.in-Some.place = cc in
    join.ensures ∙ add_at pre config-count.result config-count.ensures c.in-Some.place (sym (ap place_of e) ∙ c.find_key.ensures)
