use Rattle.std.proofs.Common.{subst}
use Rattle.std.proofs.lemmas.Result.{on_ok_weaker}
use Rattle.lj_script.specs.Items.{HasRoom}
use Rattle.lj_script.proofs.Adding.{AddsItem-ask, AddsItem-client, AddsItem-upload, AddsItem-upload_file, said}
use Rattle.lj_script.proofs.reading.read_item.Goals as goal

pub returns-in-Client-clause-item : goal.returns-in-Client-clause-item
returns-in-Client-clause-item c =
    let says = said c.args.bytes.now c.args.line.now c.in-Some.form _ c.text_of.result.now c.text_of.ensures
    c.in-Some.ensures.some c.in-Client.is in
    on_ok_weaker c.add_client.result (λ added. AddsItem-client c.in-Client.name says added) c.add_client.ensures.added

pub returns-in_ok-body-in-Upload-clause-item : goal.returns-in_ok-body-in-Upload-clause-item
returns-in_ok-body-in-Upload-clause-item c =
    let says = said c.args.bytes.now c.args.line.now c.in-Some.form _ c.text_of.result.now c.text_of.ensures
    c.in-Some.ensures.some c.in-Upload.is in
    let room = subst HasRoom c.deref.ensures.value c.in_ok-check_room-in-Upload.ensures.room in
    on_ok_weaker c.push_command.result
    (λ added. AddsItem-upload c.in-Upload.cell c.in_ok-body-in-Upload.body c.read_body.new.rest says
    c.in_ok-body-in-Upload.ensures.body room added) c.push_command.ensures.added

pub returns-in_ok-body-in-UploadFile-clause-item : goal.returns-in_ok-body-in-UploadFile-clause-item
returns-in_ok-body-in-UploadFile-clause-item c =
    let says = said c.args.bytes.now c.args.line.now c.in-Some.form _ c.text_of.result.now c.text_of.ensures
    c.in-Some.ensures.some c.in-UploadFile.is in
    let room = subst HasRoom c.deref-in-UploadFile.ensures.value c.in_ok-check_room-in-UploadFile.ensures.room in
    on_ok_weaker c.push_command-in-UploadFile.result
    (λ added. AddsItem-upload_file c.in_ok-body-in-UploadFile.body c.read_body-in-UploadFile.new.rest says
    c.in_ok-body-in-UploadFile.ensures.body room added) c.push_command-in-UploadFile.ensures.added

pub returns-in_ok-check_room-in-Ask-clause-item : goal.returns-in_ok-check_room-in-Ask-clause-item
returns-in_ok-check_room-in-Ask-clause-item c =
    let says = said c.args.bytes.now c.args.line.now c.in-Some.form _ c.text_of.result.now c.text_of.ensures
    c.in-Some.ensures.some c.in-Ask.is in
    let room = subst HasRoom c.deref-in-Ask.ensures.value c.in_ok-check_room-in-Ask.ensures.room in
    on_ok_weaker c.push_command-in-Ask.result
    (λ added. AddsItem-ask c.in-Ask.command says room added) c.push_command-in-Ask.ensures.added
