use Rattle.std.proofs.Common.{◌≡◌, IfOk, string_bytes, subst, codes}
use Rattle.serde_json.specs.Data.{put, string}
use Rattle.serde_json.specs.View.{members_view}
use Rattle.serde_json.proofs.Views.{view-Object}
use Rattle.json_lines.specs.Written.{IsObjectOf}
use Rattle.json_lines.proofs.OneLine.{returned, on_ok}
use Rattle.json_lines.proofs.object.JsonObject.to_text.Goals as goal

pub returns : goal.returns
returns c =
    let new = members_view c.put_text.new.self.members.entries in
    let all = put (codes "text") (string c.args.line.now) (members_view c.args.self.members.entries) in
    subst (λ ms. IfOk c.to_string.result (λ text. IsObjectOf ms (string_bytes text)))
    (on_ok (new ≡ all) _ _ c.in_ok-put_text.was c.put_text.ensures)
    (returned c.to_string.result string_bytes new _ (view-Object c.put_text.new.self.members) c.put_text.new.self.writable c.to_string.ensures.text c.to_string.ensures.reads_back)
